-- Lines and parts of a text that is cut at its first separator.
use Rattle.text_and_lists.proofs.Lists.{last_is}
use Rattle.text_and_lists.proofs.Pieces.{others_from_bytes}
use Rattle.text_and_lists.proofs.Split.{first_from, last_line}
use Rattle.text_and_lists.specs.Lines.{lines_of, without_return}
use Rattle.text_and_lists.specs.inner.Lines.{is_inside}
use Rattle.text_and_lists.specs.Parts.{is_other}
use Rattle.std.proofs.Common.{Bool, List, ap, arith, drop, false, get_or, length, refl, suc, sym, take, true, ℕ, [], ◌++◌, ◌-◌, ◌<◌, ◌==◌}
use Rattle.std.proofs.Common.{◌∙◌, ◌∷◌, ◌≡◌, ◌≢◌}
use Rattle.std.proofs.Math.ListN.{drop_of_length-le}
use Rattle.std.proofs.lemmas.Bool.{and_parts, eqb-true, lt-ltb, ltb-true, true≢false}
use Rattle.std.proofs.lemmas.Bool.Decides.{nat_tests}
use Rattle.std.proofs.lemmas.List.{append-nil, take-append-drop}
use Rattle.std.specs.List.{list_all}
use Rattle.std.specs.Prelude.{nat_lt, slice_index, ◌&&◌}

-- A line with no CR at its end stays as it is.
pub no_return : (bs : List ℕ) → ((front : List ℕ) → bs ≢ front ++ 13 ∷ []) → bs ≡ without_return bs
no_return bs h = by (nat_lt 0 (length bs) && (slice_index bs (length bs - 1) == 13)) refl
  where
    by : (b : Bool) → (nat_lt 0 (length bs) && (slice_index bs (length bs - 1) == 13)) ≡ b → bs ≡ without_return bs
    by true e =
        let parts = and_parts (nat_lt 0 (length bs)) (slice_index bs (length bs - 1) == 13) e in
        let some : 0 < length bs = ltb-true 0 (length bs) parts.0 in
        absurd (h (take (length bs - 1) bs) (last_is 13 bs (length bs - 1) (omega arith) (eqb-true _ _ parts.1)))
    by false e = rw e refl

-- The first line of a text that is cut at its first LF.
pub line_before : (text front behind : List ℕ) → text ≡ front ++ 10 ∷ behind → ((i : ℕ) → i < length front → get_or front i 0 ≢ 10)
    → lines_of text ≡ without_return front ∷ lines_of behind
line_before text front behind e h = ap lines_of e ∙ first_from [] front behind (others_from_bytes 10 front h)

pub shorter_behind : (c : ℕ) (text front behind : List ℕ) → text ≡ front ++ c ∷ behind → length behind < length text
shorter_behind c text front behind e = rw e (by front)
  where
    by : (xs : List ℕ) → length behind < length (xs ++ c ∷ behind)
    by [] = omega arith
    by (x ∷ xs) = let old = by xs in omega (arith, old)

-- The only line of a text without an LF.
pub line_alone : (text : List ℕ) → 0 < length text → ((i : ℕ) → i < length text → get_or text i 0 ≢ 10) → lines_of text ≡ text ∷ lines_of []
line_alone text some h =
    let all : take (length text) text ≡ text = sym (append-nil _) ∙ ap (λ (l : List ℕ). take (length text) text ++ l)
    (sym (drop_of_length-le text (omega arith))) ∙ take-append-drop (length text) text in
    let none : drop (length text) text ≡ [] = drop_of_length-le text (omega arith) in
    last_line text (length text) some none (ap (list_all is_inside) all ∙ others_from_bytes 10 text h) ∙ ap
    (λ (l : List ℕ). l ∷ lines_of (drop (length text) text)) all ∙ ap (λ (l : List ℕ). text ∷ lines_of l) none

last_at : (b : ℕ) (front : List ℕ) → get_or (front ++ b ∷ []) (length front) 0 ≡ b
last_at b [] = refl
last_at b (x ∷ xs) = last_at b xs

length_more : (b : ℕ) (front : List ℕ) → length (front ++ b ∷ []) ≡ suc (length front)
length_more b [] = refl
length_more b (x ∷ xs) = ap suc (length_more b xs)

front_of : (b : ℕ) (front : List ℕ) → take (length front) (front ++ b ∷ []) ≡ front
front_of b [] = refl
front_of b (x ∷ xs) = ap (λ (l : List ℕ). x ∷ l) (front_of b xs)

-- A line with a CR at its end loses it.
pub one_return : (bs front : List ℕ) → bs ≡ front ++ 13 ∷ [] → front ≡ without_return bs
one_return bs front e =
    let more = length_more 13 front in
    let some : 0 < length (front ++ 13 ∷ []) = omega (arith, more) in
    let last : length (front ++ 13 ∷ []) - 1 ≡ length front = omega (arith, more) in
    sym (ap without_return e ∙ (rw (lt-ltb 0 (length (front ++ 13 ∷ [])) some, last, (last_at 13 front)) refl) ∙ front_of 13 front)

-- ---- a text cut at the first occurrence of a byte

pub record Cut (a b x y : List ℕ) : Type 0 where
  pub front : a ≡ b
  pub back : x ≡ y

other_not : (s c : ℕ) → is_other s c ≡ true → c ≡ s → ⊥
other_not s c h e = true≢false (sym h ∙ grind (arith, nat_tests))

pub cut_once : (s : ℕ) (a b x y : List ℕ) → list_all (is_other s) a ≡ true → list_all (is_other s) b ≡ true → a ++ s ∷ x ≡ b ++ s ∷ y
    → Cut a b x y
cut_once s [] [] x y h g e = record { front = refl; back = cc }
cut_once s [] (c ∷ b) x y h g e = absurd (other_not s c (and_parts (is_other s c) _ g).0 cc)
cut_once s (c ∷ a) [] x y h g e = absurd (other_not s c (and_parts (is_other s c) _ h).0 cc)
cut_once s (c ∷ a) (d ∷ b) x y h g e =
    let first : c ≡ d = cc in
    let old = cut_once s a b x y (and_parts (is_other s c) _ h).1 (and_parts (is_other s d) _ g).1 cc in
    record { front = ap (λ l. c ∷ l) old.front ∙ ap (λ z. z ∷ b) first; back = old.back }
