-- Digests, and the hex digits that spell them.
use Rattle.hex.proofs.HexLemmas.{decode_of-digits, decode_sized-twice, length-encode_with}
use Rattle.hex.specs.Hex.{IsBytes, decode_of, decode_sized, encode_lower, encode_with, is_hex_digit, lower_digits}
use Rattle.md5.proofs.StandardFacts.{length-md5}
use Rattle.md5.specs.Md5.{md5}
use Rattle.s3_types.specs.Tags.{Spelled, is_hex, joined_tag, plain_tag}
use Rattle.std.proofs.Common.{Bool, List, Ok, ap, arith, length, refl, slice_index, suc, sym, true, zero, ℕ, [], ◌%◌, ◌&&◌, ◌*◌, ◌/◌, ◌<◌}
use Rattle.std.proofs.Common.{◌∙◌, ◌∷◌, ◌≡◌}
use Rattle.std.proofs.lemmas.Bool.{and_parts}
use Rattle.std.proofs.lemmas.List.Sums.{AllPass-from_list_all}
use Rattle.std.specs.List.{list_all}
use Rattle.std.specs.Result.{result_unwrap_or}

list_all_at : (p : ℕ → Bool) (xs : List ℕ) (k : ℕ) → list_all p xs ≡ true → k < length xs → p (slice_index xs k) ≡ true
list_all_at p [] k h lt = absurd (omega arith)
list_all_at p (x ∷ xs) zero h lt = (and_parts (p x) (list_all p xs) h).0
list_all_at p (x ∷ xs) (suc k) h lt = list_all_at p xs k (and_parts (p x) (list_all p xs) h).1 (omega arith)

both : (a b c : Bool) → a ≡ true → b ≡ true → c ≡ true → (a && (b && c)) ≡ true
both a b c x y z = grind arith

-- Bytes written in hex are hex digits.
pub encoded_hex : (bs : List ℕ) → IsBytes bs → list_all is_hex (encode_lower bs) ≡ true
unfolding encode_with
encoded_hex [] h = refl
encoded_hex (b ∷ bs) h =
    let fits : b < 256 = h 0 in
    both (is_hex (slice_index lower_digits (b / 16))) (is_hex (slice_index lower_digits (b % 16))) (list_all is_hex (encode_lower bs))
    (list_all_at is_hex lower_digits (b / 16) refl (omega arith))
    (list_all_at is_hex lower_digits (b % 16) refl (omega arith))
    (encoded_hex bs (λ i. h (suc i)))

hex_digit : (b : ℕ) → is_hex b ≡ true → is_hex_digit b ≡ true
hex_digit b h = grind arith

hex_digits : (s : List ℕ) → list_all is_hex s ≡ true → list_all is_hex_digit s ≡ true
hex_digits [] h = refl
hex_digits (b ∷ s) h =
    let p = and_parts (is_hex b) (list_all is_hex s) h in
    let here : is_hex_digit b ≡ true = hex_digit b p.0 in
    let there : list_all is_hex_digit s ≡ true = hex_digits s p.1 in
    cc

-- 32 hex digits spell 16 bytes.
pub digits_read : (s : List ℕ) → length s ≡ 32 → list_all is_hex s ≡ true → decode_sized s 16 ≡ Ok (result_unwrap_or (decode_of s) [])
digits_read s n h =
    let even : length s % 2 ≡ 0 = omega arith in
    let twice : length s ≡ 2 * 16 = omega arith in
    let r = decode_of-digits s even (AllPass-from_list_all is_hex_digit s (hex_digits s h)) in
    decode_sized-twice s 16 twice ∙ r.1 ∙ ap (λ d. Ok (result_unwrap_or d [])) (sym r.1)

-- The tag of a part has 32 digits.
pub plain_tag_length : (bytes : List ℕ) → length (plain_tag bytes).digits ≡ 32
unfolding plain_tag
plain_tag_length bytes = length-encode_with lower_digits (md5 bytes) ∙ ap (λ n. 2 * n) (length-md5 bytes)

-- The tag of a completed upload has 32 digits.
pub joined_tag_length : (tags : List Spelled) → length (joined_tag tags).digits ≡ 32
unfolding joined_tag
joined_tag_length tags = length-encode_with lower_digits _ ∙ ap (λ n. 2 * n) (length-md5 _)
