-- The bytes of a file. Reading printed bytes gives the bytes, and the contents that are read are bytes.
use Rattle.text_and_lists.proofs.Reading.{needed}
use Rattle.text_and_lists.specs.Shapes.{text}
use Rattle.text_and_lists.specs.Words.{joined}
use Rattle.hex.proofs.HexLemmas.{decode_of-encode_lower, decode_of-ok}
use Rattle.hex.specs.Hex.{IsBytes, decode_of, encode_lower, encode_with, lower_digits}
use Rattle.hex.specs.declared.error.FromHexError.{FromHexError}
use Rattle.job_model.specs.Legal.{IsScriptWord, are_bytes}
use Rattle.job_script.proofs.Words.{either, is_letter, is_lettered, lettered, number_bounds}
use Rattle.job_script.specs.Content.{content_at, fill_at, hex_at, hex_bytes, text_at}
use Rattle.job_script.specs.Print.{hex_word}
use Rattle.job_script.specs.declared.fault.ScriptFault.TheVariants.{BadLine}
use Rattle.std.proofs.Common.{Bool, List, None, Ok, Result, Some, ap, arith, false, length, ltb, refl, slice_index, subst, suc, true, zero}
use Rattle.std.proofs.Common.{ℕ, [], ◌%◌, ◌++◌, ◌+◌, ◌/◌, ◌<◌, ◌==◌, ◌∙◌, ◌∷◌, ◌≡◌, ◌≤◌}
use Rattle.std.proofs.Math.Utf8.{encode, encodes, next, scalar, scalar_cases, scalars}
use Rattle.std.proofs.lemmas.Bool.{and_parts, lt-ltb, ltb-true}
use Rattle.std.proofs.lemmas.List.Folds.{list_all-append}
use Rattle.std.proofs.lemmas.Str.{IsUtf8-from_is_utf8, encodes-chars, scalars-chars}
use Rattle.std.specs.List.{AllByRecursion, list_all}
use Rattle.std.specs.Prelude.{if◌then◌else◌, nat_lt, replicate, ◌&&◌}
use Rattle.std.specs.Result.{result_ok}
use Rattle.std.specs.Str.{IsUtf8, chars}

-- ---- reading printed bytes

letter_at : (t : List ℕ) (d : ℕ) → list_all is_letter t ≡ true → is_letter (slice_index t d) ≡ true
letter_at [] d h = refl
letter_at (x ∷ t) zero h = (and_parts (is_letter x) (list_all is_letter t) h).0
letter_at (x ∷ t) (suc d) h = letter_at t d (and_parts (is_letter x) (list_all is_letter t) h).1

hex_letters : (bytes : List ℕ) → list_all is_letter (encode_lower bytes) ≡ true
unfolding encode_with
hex_letters [] = refl
hex_letters (b ∷ bytes) = rw (letter_at lower_digits (b / 16) refl, letter_at lower_digits (b % 16) refl, hex_letters bytes) refl

pub hex_lettered : (bytes : List ℕ) → is_lettered (hex_word bytes) ≡ true
unfolding encode_with
hex_lettered [] = refl
hex_lettered (b ∷ bytes) = lettered (encode_lower (b ∷ bytes)) (omega arith) (hex_letters (b ∷ bytes))

bytes_at : (bytes : List ℕ) → are_bytes bytes ≡ true → IsBytes bytes
bytes_at [] h i = omega arith
bytes_at (b ∷ bytes) h zero = ltb-true b 256 (and_parts (nat_lt b 256) (are_bytes bytes) h).0
bytes_at (b ∷ bytes) h (suc i) = bytes_at bytes (and_parts (nat_lt b 256) (are_bytes bytes) h).1 i

-- Reading the hex digits of bytes gives the bytes. Two digits a byte are never the word `-`.
pub hex_again : (bytes : List ℕ) → are_bytes bytes ≡ true → hex_bytes (hex_word bytes) ≡ Some bytes
unfolding encode_with
hex_again [] h = refl
hex_again (b ∷ bytes) h = long (slice_index lower_digits (b / 16)) (slice_index lower_digits (b % 16)) (encode_lower bytes) ∙ ap result_ok
    (decode_of-encode_lower (b ∷ bytes) (bytes_at (b ∷ bytes) h))
  where
    long_if : (dash some : Bool) (text : List ℕ) → some ≡ true
        → (if dash && false then Some [] else (if some then result_ok (decode_of text) else None)) ≡ result_ok (decode_of text)
    long_if dash some text h = grind arith

    long : (x y : ℕ) (rest : List ℕ) → hex_bytes (x ∷ y ∷ rest) ≡ result_ok (decode_of (x ∷ y ∷ rest))
    long x y rest = long_if (x == 45) (nat_lt 0 (length (x ∷ y ∷ rest))) (x ∷ y ∷ rest) (lt-ltb 0 (length (x ∷ y ∷ rest)) (omega arith))

-- The hex digits of some bytes are their word.
pub word_is : (bytes text : List ℕ) → (length bytes ≡ 0 → ⊥) → text ≡ encode_lower bytes → text ≡ hex_word bytes
word_is [] text some e = absurd (some refl)
word_is (b ∷ bytes) text some e = e

-- ---- the contents that are read are bytes

bytes_end : (xs ys : List ℕ) → are_bytes xs ≡ true → are_bytes ys ≡ true → are_bytes (xs ++ ys) ≡ true
bytes_end xs ys h k = list_all-append (λ b. nat_lt b 256) xs ys ∙ rw (h, k) refl

below : (c : ℕ) → scalar c ≡ true → c < 1114112
below c h = let cases = scalar_cases c h in grind arith

encoded_bytes : (c : ℕ) → scalar c ≡ true → are_bytes (encode c) ≡ true
unfolding encode
encoded_bytes c h =
    let most = below c h in
    let e : next c < 256 = omega arith in
    let f : next (c / 64) < 256 = omega arith in
    let g : next (c / 4096) < 256 = omega arith in
    either (λ (l : List ℕ). are_bytes l ≡ true) (ltb c 128) (c ∷ []) _
    (λ k. let l = ltb-true c 128 k in let m : c < 256 = omega (arith, l) in rw (lt-ltb c 256 m) refl)
    (λ k. either (λ (l : List ℕ). are_bytes l ≡ true) (ltb c 2048) ((192 + c / 64) ∷ next c ∷ []) _
    (λ k. let l = ltb-true c 2048 k in let m : 192 + c / 64 < 256 = omega (arith, l) in rw
    (lt-ltb (192 + c / 64) 256 m, lt-ltb (next c) 256 e) refl)
    (λ k. either (λ (l : List ℕ). are_bytes l ≡ true) (ltb c 65536) ((224 + c / 4096) ∷ next (c / 64) ∷ next c ∷ []) _
    (λ k. let l = ltb-true c 65536 k in let m : 224 + c / 4096 < 256 = omega (arith, l) in rw
    (lt-ltb (224 + c / 4096) 256 m, lt-ltb (next (c / 64)) 256 f, lt-ltb (next c) 256 e) refl)
    (λ k. let m : 240 + c / 262144 < 256 = omega (arith, most) in rw (
      lt-ltb (240 + c / 262144) 256 m,
      lt-ltb (next (c / 4096)) 256 g,
      lt-ltb (next (c / 64)) 256 f,
      lt-ltb (next c) 256 e,
    ) refl)))

encodes_bytes : (cs : List ℕ) → scalars cs ≡ true → are_bytes (encodes cs) ≡ true
encodes_bytes [] h = refl
encodes_bytes (c ∷ cs) h = let p = and_parts (scalar c) (scalars cs) h in bytes_end (encode c) (encodes cs) (encoded_bytes c p.0)
    (encodes_bytes cs p.1)

-- A text in UTF-8 consists of bytes.
utf8_bytes : (bs : List ℕ) → IsUtf8 bs → are_bytes bs ≡ true
utf8_bytes bs h = subst (λ (l : List ℕ). are_bytes l ≡ true) (encodes-chars bs h) (encodes_bytes (chars bs) (scalars-chars bs h))

word_bytes : (w : List ℕ) → IsScriptWord w → are_bytes w ≡ true
word_bytes w h = utf8_bytes w (IsUtf8-from_is_utf8 w h.0)

joined_bytes : (w : List ℕ) (ws : List (List ℕ)) → AllByRecursion IsScriptWord (w ∷ ws) → are_bytes (joined (w ∷ ws)) ≡ true
joined_bytes w [] h = word_bytes w h.0
joined_bytes w (v ∷ ws) h = bytes_end w (32 ∷ joined (v ∷ ws)) (word_bytes w h.0) (joined_bytes v ws h.1)

text_bytes : (words : List (List ℕ)) (x : List ℕ) → AllByRecursion IsScriptWord words → text words ≡ Some x → are_bytes x ≡ true
text_bytes [] x h e = absurd cc
text_bytes (w ∷ ws) x h e = let k : joined (w ∷ ws) ≡ x = cc in subst (λ (l : List ℕ). are_bytes l ≡ true) k (joined_bytes w ws h)

bytes_are : (xs : List ℕ) → IsBytes xs → are_bytes xs ≡ true
bytes_are [] h = refl
bytes_are (x ∷ xs) h = rw (lt-ltb x 256 (h zero), bytes_are xs (λ i. h (suc i))) refl

decoded_bytes : (r : Result (List ℕ) FromHexError) (xs : List ℕ) → result_ok r ≡ Some xs → r ≡ Ok xs
decoded_bytes r xs h = grind arith

decoded_are : (digits xs : List ℕ) → result_ok (decode_of digits) ≡ Some xs → are_bytes xs ≡ true
decoded_are digits xs h = bytes_are xs (decode_of-ok digits xs (decoded_bytes (decode_of digits) xs h)).3

hex_bytes_bytes : (digits xs : List ℕ) → hex_bytes digits ≡ Some xs → are_bytes xs ≡ true
hex_bytes_bytes digits xs h = grind (arith, decoded_are digits xs)

fill_bytes : (count byte : ℕ) → byte ≤ 255 → are_bytes (replicate count byte) ≡ true
fill_bytes zero byte h = refl
fill_bytes (suc n) byte h = let m : byte < 256 = omega (arith, h) in rw (lt-ltb byte 256 m, fill_bytes n byte h) refl

text_sound : (n : ℕ) (words : List (List ℕ)) (x : List ℕ) → AllByRecursion IsScriptWord words → text_at n words ≡ Ok x → are_bytes x ≡ true
unfolding text_at
text_sound n words x w h = text_bytes words x w (needed (text words) (BadLine n) x h)

hex_sound : (n : ℕ) (words : List (List ℕ)) (x : List ℕ) → hex_at n words ≡ Ok x → are_bytes x ≡ true
unfolding hex_at
hex_sound n words x h = grind (arith, hex_bytes_bytes)

fill_sound : (n : ℕ) (words : List (List ℕ)) (x : List ℕ) → fill_at n words ≡ Ok x → are_bytes x ≡ true
unfolding fill_at
fill_sound n words x h = grind (arith, number_bounds, fill_bytes)

-- The contents that a file's line gives are bytes.
pub content_sound : (n : ℕ) (form : List ℕ) (words : List (List ℕ)) (x : List ℕ) → AllByRecursion IsScriptWord words
    → content_at n form words ≡ Ok x → are_bytes x ≡ true
unfolding content_at
content_sound n form words x w h = grind (arith, text_sound n words x w, hex_sound n words x, fill_sound n words x)
