-- Numbers and names in words, words of letters, and the words of a text in UTF-8.
use Rattle.text_and_lists.proofs.Lists.{weaker}
use Rattle.text_and_lists.proofs.Round.{digit_inside, word_bare}
use Rattle.text_and_lists.proofs.Utf8.{utf8_cut}
use Rattle.text_and_lists.specs.Lines.{lines_from, lines_of, unless_empty, without_return}
use Rattle.text_and_lists.specs.inner.Lines.{is_inside}
use Rattle.text_and_lists.specs.Numbers.{is_digit, number_in}
use Rattle.text_and_lists.specs.Parts.{parts_from}
use Rattle.text_and_lists.specs.Words.{IsBare, is_bare, words_of}
use Rattle.text_and_lists.specs.inner.Words.{IsWord, is_plain}
use Rattle.job_model.specs.Legal.{IsScriptWord}
use Rattle.job_script.specs.Kinds.{Names, named}
use Rattle.s3_types.specs.Names.{is_id_byte, is_job_id}
use Rattle.std.proofs.Common.{Bool, List, Option, Some, ap, append_assoc, arith, cond, decimal, drop, false, get_or, length, refl, subst}
use Rattle.std.proofs.Common.{sym, take, true, ℕ, [], ◌++◌, ◌-◌, ◌<◌, ◌==◌, ◌^◌, ◌∙◌, ◌∷◌, ◌≡◌, ◌≤◌}
use Rattle.std.proofs.lemmas.Bool.{and_parts, eqb-true, leb-true, lt-ltb, ltb-true}
use Rattle.std.proofs.lemmas.Bool.Decides.{nat_tests}
use Rattle.std.proofs.lemmas.Fmt.{decimal_nonempty}
use Rattle.std.proofs.lemmas.List.{append-nil, take-append-drop}
use Rattle.std.proofs.lemmas.List.Folds.{list_all-append}
use Rattle.std.proofs.lemmas.Str.{IsCharBoundary-before_ascii, IsUtf8-from_ascii, IsUtf8-from_is_utf8, IsUtf8-take, is_utf8-from_IsUtf8}
use Rattle.std.proofs.lemmas.Str.Ascii.{IsAscii-cons, IsAscii-nil}
use Rattle.std.specs.List.{AllByRecursion, list_all}
use Rattle.std.specs.Prelude.{bytes_eq, if◌then◌else◌, nat_lt, slice_index, ◌&&◌}
use Rattle.std.specs.Str.{IsAscii, IsUtf8, is_utf8}

pub either : {A : Type 0} (P : A → Type 0) (b : Bool) (x y : A) → (b ≡ true → P x) → (b ≡ false → P y) → P (cond b x y)
either P true x y f g = f refl
either P false x y f g = g refl

-- ---- numbers and names

-- A number that was read is within its bounds.
pub number_bounds : (low high : ℕ) (word : List ℕ) (x : ℕ) → number_in low high word ≡ Some x → (low ≤ x) × (x ≤ high)
number_bounds low high word x h = grind arith

named_at : {A : Type 0} (P : A → Type 0) (b : Bool) (y x : A) (later : Option A) → P y → (later ≡ Some x → P x)
    → (if b then Some y else later) ≡ Some x → P x
named_at P b y x later p old h = grind arith

-- A property of all rows of a table holds for the meaning of a word.
pub named_all : {A : Type 0} (P : A → Type 0) (rows : Names A) (word : List ℕ) (x : A) → AllByRecursion (λ row. P row.1) rows
    → named rows word ≡ Some x → P x
named_all P [] word x all h = absurd cc
named_all P (row ∷ rows) word x all h = named_at P (bytes_eq word row.0) row.1 x (named rows word) all.0
    (λ k. named_all P rows word x all.1 k) h

-- ---- words of letters

-- True for ASCII bytes except blank and line ends.
abbrev pub is_letter : ℕ → Bool
is_letter b = nat_lt b 128 && is_plain b

letters_ascii : (w : List ℕ) → list_all is_letter w ≡ true → IsAscii w
letters_ascii [] h = IsAscii-nil
letters_ascii (b ∷ w) h =
    let p = and_parts (is_letter b) (list_all is_letter w) h in
    let small : b < 128 = ltb-true b 128 (and_parts (nat_lt b 128) (is_plain b) p.0).0 in
    IsAscii-cons b w small (letters_ascii w p.1)

letter_plain : (b : ℕ) → is_letter b ≡ true → is_plain b ≡ true
letter_plain b h = (and_parts (nat_lt b 128) (is_plain b) h).1

pub plain_word : (w : List ℕ) → list_all is_letter w ≡ true → IsWord w
plain_word w h = weaker is_letter is_plain letter_plain w h

-- A script may have a word of letters.
pub literal_word : (w : List ℕ) → list_all is_letter w ≡ true → IsScriptWord w
literal_word w h = (is_utf8-from_IsUtf8 w (IsUtf8-from_ascii w (letters_ascii w h)), word_bare w (plain_word w h))

-- True for a word of at least one letter.
abbrev pub is_lettered : List ℕ → Bool
is_lettered w = nat_lt 0 (length w) && list_all is_letter w

pub lettered : (w : List ℕ) → 0 < length w → list_all is_letter w ≡ true → is_lettered w ≡ true
lettered w some h = rw (lt-ltb 0 (length w) some) h

digit_letter : (b : ℕ) → is_digit b ≡ true → is_letter b ≡ true
digit_letter b h = grind arith

pub decimal_letters : (n : ℕ) → n < 2 ^ 64 → list_all is_letter (decimal n) ≡ true
decimal_letters n h = weaker is_digit is_letter digit_letter (decimal n) (digit_inside n h)

pub decimal_lettered : (n : ℕ) → n < 2 ^ 64 → is_lettered (decimal n) ≡ true
decimal_lettered n h = lettered (decimal n) (decimal_nonempty n h) (decimal_letters n h)

pub letters_end : (xs ys : List ℕ) → list_all is_letter xs ≡ true → list_all is_letter ys ≡ true → list_all is_letter (xs ++ ys) ≡ true
letters_end xs ys h k = list_all-append is_letter xs ys ∙ rw (h, k) refl

id_letter : (b : ℕ) → is_id_byte b ≡ true → is_letter b ≡ true
id_letter b h = grind (arith, nat_tests)

pub id_lettered : (id : List ℕ) → is_job_id id ≡ true → is_lettered id ≡ true
id_lettered id h =
    let p = and_parts _ (list_all is_id_byte id) h in
    lettered id (leb-true 1 (length id) (and_parts _ _ p.0).0) (weaker is_id_byte is_letter id_letter id p.1)

-- ---- a text in UTF-8

-- Holds if the text is UTF-8 and each of its bytes passes the test.
pub record IsClean (p : ℕ → Bool) (w : List ℕ) : Type 0 where
  pub utf8 : IsUtf8 w
  pub all : list_all p w ≡ true

pub clean_cut : (p : ℕ → Bool) (b : ℕ) (xs ys : List ℕ) → b < 128 → IsClean p (xs ++ b ∷ ys) → IsClean p xs × IsClean p ys
clean_cut p b xs ys small h =
    let u = utf8_cut b xs ys small h.utf8 in
    let e = and_parts (list_all p xs) (list_all p (b ∷ ys)) (sym (list_all-append p xs (b ∷ ys)) ∙ h.all) in
    let f = and_parts (p b) (list_all p ys) e.1 in
    (record { utf8 = u.0; all = e.0 }, record { utf8 = u.1; all = f.1 })

-- The text up to an ASCII byte.
clean_take : (p : ℕ → Bool) (w : List ℕ) (i : ℕ) → i < length w → get_or w i 0 < 128 → IsClean p w → IsClean p (take i w)
clean_take p w i fits at h =
    let whole : list_all p (take i w ++ drop i w) ≡ true = ap (list_all p) (take-append-drop i w) ∙ h.all in
    let e = and_parts (list_all p (take i w)) (list_all p (drop i w)) (sym (list_all-append p (take i w) (drop i w)) ∙ whole) in
    record { utf8 = IsUtf8-take w i h.utf8 (IsCharBoundary-before_ascii w i fits at); all = e.0 }

-- The text without an ASCII byte at its end.
pub clean_end : (p : ℕ → Bool) (b : ℕ) (w : List ℕ) → b < 128 → IsClean p w
    → IsClean p (cond (nat_lt 0 (length w) && (slice_index w (length w - 1) == b)) (take (length w - 1) w) w)
clean_end p b w small h =
    either (IsClean p) (nat_lt 0 (length w) && (slice_index w (length w - 1) == b)) (take (length w - 1) w) w
    (λ e.
    let q = and_parts (nat_lt 0 (length w)) (slice_index w (length w - 1) == b) e in
    let some : 0 < length w = ltb-true 0 (length w) q.0 in
    let at : get_or w (length w - 1) 0 ≡ b = eqb-true _ _ q.1 in
    clean_take p w (length w - 1) (omega (arith, some)) (omega (arith, at, small)) h)
    (λ e. h)

unless_clean : (line : List ℕ) → IsClean is_inside line → AllByRecursion (IsClean is_inside) (unless_empty line)
unless_clean [] h = tt
unless_clean (x ∷ xs) h = (h, tt)

no_line_end : (x : ℕ) → (x == 10) ≡ false → is_inside x ≡ true
no_line_end x e = rw e refl

one_more : (p : ℕ → Bool) (xs : List ℕ) (x : ℕ) → list_all p xs ≡ true → p x ≡ true → list_all p (xs ++ x ∷ []) ≡ true
one_more p xs x h e = list_all-append p xs (x ∷ []) ∙ rw (h, e) refl

lines_clean : (line rest : List ℕ) → IsUtf8 (line ++ rest) → list_all is_inside line ≡ true
    → AllByRecursion (IsClean is_inside) (lines_from line rest)
unfolding lines_from
lines_clean line [] h k = unless_clean line (record { utf8 = subst IsUtf8 (append-nil line) h; all = k })
lines_clean line (x ∷ xs) h k =
    either (AllByRecursion (IsClean is_inside)) (x == 10) (without_return line ∷ lines_from [] xs) (lines_from (line ++ x ∷ []) xs)
    (λ e.
    let is : x ≡ 10 = eqb-true x 10 e in
    let u = utf8_cut x line xs (omega (arith, is)) h in
    (clean_end is_inside 13 line (omega arith) (record { utf8 = u.0; all = k }), lines_clean [] xs u.1 refl))
    (λ e. lines_clean (line ++ x ∷ []) xs (subst IsUtf8 (sym (append_assoc line (x ∷ []) xs)) h)
    (one_more is_inside line x k (no_line_end x e)))

-- The lines of a text in UTF-8 are in UTF-8, and have no LF.
pub text_clean : (bytes : List ℕ) → is_utf8 bytes ≡ true → AllByRecursion (IsClean is_inside) (lines_of bytes)
text_clean bytes h = lines_clean [] bytes (IsUtf8-from_is_utf8 bytes h) refl

pub script_word : (w : List ℕ) → IsClean is_bare w → IsScriptWord w
script_word w h = (is_utf8-from_IsUtf8 w h.utf8, h.all)

pub word_clean : (w : List ℕ) → IsScriptWord w → IsClean is_bare w
word_clean w h = record { utf8 = IsUtf8-from_is_utf8 w h.0; all = h.1 }

bare_byte : (x : ℕ) → (x == 32) ≡ false → is_inside x ≡ true → is_bare x ≡ true
bare_byte x e h = rw (e, h) refl

words_clean : (part rest : List ℕ) → IsUtf8 (part ++ rest) → IsBare part → list_all is_inside rest ≡ true
    → AllByRecursion IsScriptWord (parts_from 32 part rest)
unfolding parts_from
words_clean part [] h b k = (script_word part (record { utf8 = subst IsUtf8 (append-nil part) h; all = b }), tt)
words_clean part (x ∷ xs) h b k =
    let q = and_parts (is_inside x) (list_all is_inside xs) k in
    either (AllByRecursion IsScriptWord) (x == 32) (part ∷ parts_from 32 [] xs) (parts_from 32 (part ++ x ∷ []) xs)
    (λ e.
    let is : x ≡ 32 = eqb-true x 32 e in
    let u = utf8_cut x part xs (omega (arith, is)) h in
    (script_word part (record { utf8 = u.0; all = b }), words_clean [] xs u.1 refl q.1))
    (λ e. words_clean (part ++ x ∷ []) xs (subst IsUtf8 (sym (append_assoc part (x ∷ []) xs)) h)
    (one_more is_bare part x b (bare_byte x e q.0)) q.1)

-- The words of such a line may be words of a script.
pub line_words : (line : List ℕ) → IsClean is_inside line → AllByRecursion IsScriptWord (words_of line)
line_words line h = words_clean [] line h.utf8 refl h.all
