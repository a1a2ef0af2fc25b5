-- The lines of words from which a text was made are read in it again.
use Rattle.text_and_lists.proofs.Bools.{not_so}
use Rattle.text_and_lists.proofs.Lists.{weaker}
use Rattle.text_and_lists.proofs.Split.{first_from, lone_from, part_from}
use Rattle.text_and_lists.specs.Lines.{lines_from, lines_of, without_return}
use Rattle.text_and_lists.specs.inner.Lines.{is_inside}
use Rattle.text_and_lists.specs.Numbers.{digits_from, is_digit, number_in, number_of}
use Rattle.text_and_lists.specs.Parts.{is_other, parts_of}
use Rattle.text_and_lists.specs.Words.{IsBare, ended, is_bare, joined, text_of, words_of}
use Rattle.text_and_lists.specs.inner.Words.{IsLine, IsWord, is_plain}
use Rattle.std.proofs.Common.{Bool, List, Some, ap, append_assoc, arith, cond, decimal, false, get_or, length, lit<, map, not, refl, suc}
use Rattle.std.proofs.Common.{true, zero, ℕ, [], ◌&&◌, ◌*◌, ◌++◌, ◌+◌, ◌-◌, ◌<◌, ◌==◌, ◌^◌, ◌∙◌, ◌∷◌, ◌≡◌, ◌≤◌}
use Rattle.std.proofs.lemmas.Bool.{and_parts, le-leb, leb-true}
use Rattle.std.proofs.lemmas.Fmt.{decimal_nonempty, digits_decimal, digits_value-decimal, length-decimal-le}
use Rattle.std.proofs.lemmas.List.Concat.{flat_map-cons}
use Rattle.std.proofs.lemmas.Str.{digit_value_digit}
use Rattle.std.proofs.lemmas.Str.Parse.{IsNumeralModel, digit_from_value}
use Rattle.std.specs.Char.{digit_value}
use Rattle.std.specs.List.{AllByRecursion, list_all}
use Rattle.std.specs.Str.Parse.{AllDigits, digits_value_after}

plain_letter : (b : ℕ) → is_plain b ≡ true → is_other 32 b ≡ true
plain_letter b h = (and_parts (is_other 32 b) _ h).0

-- ---- words

pub words-joined : (w : List ℕ) (ws : List (List ℕ)) → IsLine (w ∷ ws) → words_of (joined (w ∷ ws)) ≡ w ∷ ws
words-joined w [] h = lone_from 32 [] w (weaker is_plain (is_other 32) plain_letter w h.0)
words-joined w (v ∷ ws) h = part_from 32 [] w (joined (v ∷ ws)) (weaker is_plain (is_other 32) plain_letter w h.0) ∙ ap
    (λ (l : List (List ℕ)). w ∷ l) (words-joined v ws (h.1.0, h.1.1))

-- ---- lines

-- True if the byte is no LF and no CR.
abbrev is_inner : ℕ → Bool
is_inner b = not (b == 10) && not (b == 13)

all-append : (p : ℕ → Bool) (xs ys : List ℕ) → list_all p xs ≡ true → list_all p ys ≡ true → list_all p (xs ++ ys) ≡ true
all-append p [] ys h k = k
all-append p (x ∷ xs) ys h k = let q = and_parts (p x) _ h in rw (q.0, all-append p xs ys q.1 k) refl

plain_inner : (b : ℕ) → is_plain b ≡ true → is_inner b ≡ true
plain_inner b h = (and_parts (is_other 32 b) _ h).1

joined_inner : (w : List ℕ) (ws : List (List ℕ)) → IsLine (w ∷ ws) → list_all is_inner (joined (w ∷ ws)) ≡ true
joined_inner w [] h = weaker is_plain is_inner plain_inner w h.0
joined_inner w (v ∷ ws) h = all-append is_inner w (32 ∷ joined (v ∷ ws)) (weaker is_plain is_inner plain_inner w h.0)
    (joined_inner v ws (h.1.0, h.1.1))

at_index : (p : ℕ → Bool) (xs : List ℕ) (i : ℕ) → i < length xs → list_all p xs ≡ true → p (get_or xs i 0) ≡ true
at_index p [] i lt h = absurd (omega arith)
at_index p (x ∷ xs) zero lt h = (and_parts (p x) _ h).0
at_index p (x ∷ xs) (suc i) lt h = at_index p xs i (omega arith) (and_parts (p x) _ h).1

neither : (b : Bool) (xs ys : List ℕ) → cond (b && false) xs ys ≡ ys
neither b xs ys = grind arith

no_return : (line : List ℕ) → list_all is_inner line ≡ true → without_return line ≡ line
no_return line h = grind (arith, and_parts, at_index, not_so, neither)

inner_inside : (b : ℕ) → is_inner b ≡ true → is_inside b ≡ true
inner_inside b h = (and_parts (is_inside b) _ h).0

pub one_line : (w : List ℕ) (ws : List (List ℕ)) (rest : List ℕ) → IsLine (w ∷ ws)
    → lines_of (ended (w ∷ ws) ++ rest) ≡ joined (w ∷ ws) ∷ lines_of rest
one_line w ws rest h =
    let line = joined (w ∷ ws) in
    let inner = joined_inner w ws h in
    ap lines_of (append_assoc line (10 ∷ []) rest) ∙ first_from [] line rest (weaker is_inner is_inside inner_inside line inner) ∙ ap
    (λ (l : List ℕ). l ∷ lines_of rest) (no_return line inner)

pub lines-text_of : (ls : List (List (List ℕ))) → AllByRecursion IsLine ls → lines_of (text_of ls) ≡ map joined ls
unfolding lines_from
lines-text_of [] h = refl
lines-text_of ([] ∷ ls) h = absurd h.0
lines-text_of ((w ∷ ws) ∷ ls) h = ap lines_of (flat_map-cons ended (w ∷ ws) ls) ∙ one_line w ws (text_of ls) h.0 ∙ ap
    (λ (l : List (List ℕ)). joined (w ∷ ws) ∷ l) (lines-text_of ls h.1)

-- ---- numbers

digit_is : (c : ℕ) → is_digit c ≡ true → digit_value c < 10
digit_is c h = grind (arith, and_parts, leb-true, digit_value_digit)

is_a_digit : (c : ℕ) → digit_value c < 10 → is_digit c ≡ true
is_a_digit c h = let r = digit_from_value c h in rw (le-leb 48 c r.0, le-leb c 57 r.1) refl

to_digits : (ds : List ℕ) → list_all is_digit ds ≡ true → AllDigits 10 ds
to_digits [] h = tt
to_digits (d ∷ ds) h = let p = and_parts (is_digit d) _ h in (digit_is d p.0, to_digits ds p.1)

from_digits : (ds : List ℕ) → AllDigits 10 ds → list_all is_digit ds ≡ true
from_digits [] h = refl
from_digits (d ∷ ds) h = rw (is_a_digit d h.0, from_digits ds h.1) refl

same_from : (n : ℕ) (ds : List ℕ) → AllDigits 10 ds → digits_from n ds ≡ digits_value_after 10 n ds
unfolding digits_from
same_from n [] h = refl
same_from n (d ∷ ds) h =
    let e : d - 48 ≡ digit_value d = omega (arith, digit_value_digit d (digit_from_value d h.0)) in
    ap (λ (x : ℕ). digits_from (n * 10 + x) ds) e ∙ same_from (n * 10 + digit_value d) ds h.1

own : IsNumeralModel (λ ds. list_all is_digit ds ≡ true) (digits_from 0)
own = record { to = to_digits; from = from_digits; same = same_from 0 }

pub digit_inside : (n : ℕ) → n < 2 ^ 64 → list_all is_digit (decimal n) ≡ true
digit_inside n h = digits_decimal own n h

pub number-decimal : (n : ℕ) → n < 10 ^ 18 → number_of (decimal n) ≡ Some n
number-decimal n h =
    let fits : n < 2 ^ 64 = omega arith in
    let b : length (decimal n) ≤ 18 = length-decimal-le 18 n (lit< tt) h fits in
    let some : 0 < length (decimal n) = decimal_nonempty n fits in
    rw (le-leb 1 (length (decimal n)) some, le-leb (length (decimal n)) 18 b, digit_inside n fits)
    (ap (λ (m : ℕ). Some m) (digits_value-decimal own n fits))

-- ---- words of digits

digit_plain : (b : ℕ) → is_digit b ≡ true → is_plain b ≡ true
digit_plain b h = grind arith

pub decimal_word : (n : ℕ) → n < 2 ^ 64 → IsWord (decimal n)
decimal_word n h = weaker is_digit is_plain digit_plain (decimal n) (digit_inside n h)

pub number_in-decimal : (low high n : ℕ) → low ≤ n → n ≤ high → high < 10 ^ 18 → number_in low high (decimal n) ≡ Some n
number_in-decimal low high n h g e = grind (arith, number-decimal, le-leb)

-- No digit is the separator.
digit_other : (s : ℕ) → s < 48 → (b : ℕ) → is_digit b ≡ true → is_other s b ≡ true
digit_other s h b g = grind arith

pub decimal_other : (s n : ℕ) → s < 48 → n < 2 ^ 64 → list_all (is_other s) (decimal n) ≡ true
decimal_other s n h fits = weaker is_digit (is_other s) (digit_other s h) (decimal n) (digit_inside n fits)

pub two_numbers : (s n m : ℕ) → s < 48 → n < 2 ^ 64 → m < 2 ^ 64 → parts_of s (decimal n ++ s ∷ decimal m) ≡ decimal n ∷ decimal m ∷ []
two_numbers s n m h f g = part_from s [] (decimal n) (decimal m) (decimal_other s n h f) ∙ ap (λ (l : List (List ℕ)). decimal n ∷ l)
    (lone_from s [] (decimal m) (decimal_other s m h g))

-- ---- words that may have a CR, except at the end of the line

-- Bare words, and no CR at the end.
pub record IsBareLine (ws : List (List ℕ)) : Type 0 where
  pub bare : AllByRecursion IsBare ws
  pub kept : without_return (joined ws) ≡ joined ws

bare_letter : (b : ℕ) → is_bare b ≡ true → is_other 32 b ≡ true
bare_letter b h = (and_parts (is_other 32 b) _ h).0

bare_inside : (b : ℕ) → is_bare b ≡ true → is_inside b ≡ true
bare_inside b h = (and_parts (is_other 32 b) _ h).1

plain_bare : (b : ℕ) → is_plain b ≡ true → is_bare b ≡ true
plain_bare b h = let p = and_parts (not (b == 32)) _ h in let q = and_parts (not (b == 10)) _ p.1 in rw (p.0, q.0) refl

pub word_bare : (w : List ℕ) → IsWord w → IsBare w
word_bare w h = weaker is_plain is_bare plain_bare w h

pub bare-joined : (w : List ℕ) (ws : List (List ℕ)) → AllByRecursion IsBare (w ∷ ws) → words_of (joined (w ∷ ws)) ≡ w ∷ ws
bare-joined w [] h = lone_from 32 [] w (weaker is_bare (is_other 32) bare_letter w h.0)
bare-joined w (v ∷ ws) h = part_from 32 [] w (joined (v ∷ ws)) (weaker is_bare (is_other 32) bare_letter w h.0) ∙ ap
    (λ (l : List (List ℕ)). w ∷ l) (bare-joined v ws h.1)

bare_line : (w : List ℕ) (ws : List (List ℕ)) → AllByRecursion IsBare (w ∷ ws) → list_all is_inside (joined (w ∷ ws)) ≡ true
bare_line w [] h = weaker is_bare is_inside bare_inside w h.0
bare_line w (v ∷ ws) h = all-append is_inside w (32 ∷ joined (v ∷ ws)) (weaker is_bare is_inside bare_inside w h.0) (bare_line v ws h.1)

abbrev pub AreLines : List (List (List ℕ)) → Type 0
AreLines [] = Unit {0}
AreLines ([] ∷ ls) = ⊥
AreLines ((w ∷ ws) ∷ ls) = IsBareLine (w ∷ ws) × AreLines ls

-- The lines of the text of some lines are these lines.
pub lines_again : (ls : List (List (List ℕ))) → AreLines ls → lines_of (text_of ls) ≡ map joined ls
unfolding lines_from
lines_again [] h = refl
lines_again ([] ∷ ls) h = absurd h
lines_again ((w ∷ ws) ∷ ls) h =
    let line = joined (w ∷ ws) in
    ap lines_of (flat_map-cons ended (w ∷ ws) ls ∙ append_assoc line (10 ∷ []) (text_of ls))
    ∙ first_from [] line (text_of ls) (bare_line w ws h.0.bare)
    ∙ ap (λ (l : List ℕ). l ∷ lines_of (text_of ls)) h.0.kept
    ∙ ap (λ (l : List (List ℕ)). line ∷ l) (lines_again ls h.1)

some_more : (xs : List ℕ) (x : ℕ) (ys : List ℕ) → 0 < length (xs ++ x ∷ ys)
some_more [] x ys = omega arith
some_more (a ∷ xs) x ys = omega arith

last_at : (xs : List ℕ) (x : ℕ) (ys : List ℕ) (i : ℕ) → i + 1 ≡ length (xs ++ x ∷ ys)
    → get_or (xs ++ x ∷ ys) i 0 ≡ get_or (x ∷ ys) (length (x ∷ ys) - 1) 0
last_at [] x ys i h = let e : i ≡ length (x ∷ ys) - 1 = omega (arith, h) in ap (λ (j : ℕ). get_or (x ∷ ys) j 0) e
last_at (a ∷ xs) x ys zero h = let some = some_more xs x ys in absurd (omega arith)
last_at (a ∷ xs) x ys (suc i) h = last_at xs x ys i (omega (arith, h))

last_of : (xs : List ℕ) (x : ℕ) (ys : List ℕ) → get_or (xs ++ x ∷ ys) (length (xs ++ x ∷ ys) - 1) 0 ≡ get_or (x ∷ ys) (length (x ∷ ys) - 1)
    0
last_of xs x ys = let some = some_more xs x ys in last_at xs x ys (length (xs ++ x ∷ ys) - 1) (omega arith)

-- A line whose last word has no CR keeps its end.
pub kept_end : (xs : List ℕ) (x : ℕ) (ys : List ℕ) → IsWord (x ∷ ys) → without_return (xs ++ x ∷ ys) ≡ xs ++ x ∷ ys
kept_end xs x ys h = grind (arith, and_parts, at_index, last_of, not_so, neither)
