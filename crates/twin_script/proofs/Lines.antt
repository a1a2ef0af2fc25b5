-- The first line of bytes that are cut at an LF, and bytes that write no number.
use Rattle.text_and_lists.proofs.Counts.{some_part}
use Rattle.text_and_lists.proofs.Lists.{weaker}
use Rattle.text_and_lists.proofs.Pieces.{join_parts}
use Rattle.text_and_lists.proofs.Split.{first_from, last_line}
use Rattle.text_and_lists.specs.Lines.{lines_of, without_return}
use Rattle.text_and_lists.specs.inner.Lines.{is_inside}
use Rattle.text_and_lists.specs.Numbers.{is_digit, number_in}
use Rattle.text_and_lists.specs.Parts.{is_other, parts_from, parts_of}
use Rattle.s3_types.proofs.Utf8.{hex_utf8}
use Rattle.s3_types.specs.Tags.{is_hex}
use Rattle.std.proofs.Common.{Bool, List, ap, arith, drop, false, length, refl, subst, sym, take, true, ℕ, [], ◌++◌, ◌<◌, ◌==◌, ◌∙◌, ◌∷◌}
use Rattle.std.proofs.Common.{◌≡◌}
use Rattle.std.proofs.Math.ListN.{drop_of_length-le}
use Rattle.std.proofs.Math.Seq.{take-length}
use Rattle.std.proofs.lemmas.Bool.{and_parts}
use Rattle.std.proofs.lemmas.List.Folds.{list_all-append}
use Rattle.std.specs.List.{join_with_byte, list_all}
use Rattle.std.specs.Prelude.{None, nat_le, ◌&&◌}
use Rattle.std.specs.Str.{IsUtf8}

other : (s x : ℕ) → (x == s) ≡ false → is_other s x ≡ true
other s x e = rw e refl

-- The first part has no separator.
head_from : (s : ℕ) (front text part : List ℕ) (parts : List (List ℕ)) → list_all (is_other s) front ≡ true
    → parts_from s front text ≡ part ∷ parts → list_all (is_other s) part ≡ true
unfolding parts_from
head_from s front [] part parts h e = let same : front ≡ part = cc in subst (λ (l : List ℕ). list_all (is_other s) l ≡ true) same h
head_from s front (x ∷ xs) part parts h e = by (x == s) refl (head_from s (front ++ x ∷ []) xs part parts)
  where
    by : (b : Bool) → (x == s) ≡ b → (list_all (is_other s) (front ++ x ∷ []) ≡ true → parts_from s (front ++ x ∷ []) xs ≡ part ∷ parts
        → list_all (is_other s) part ≡ true) → list_all (is_other s) part ≡ true
    by true q more = let k = rw q at e in let same : front ≡ part = cc in subst (λ (l : List ℕ). list_all (is_other s) l ≡ true) same h
    by false q more = more (list_all-append (is_other s) front (x ∷ []) ∙ rw (h, q) refl) (rw q at e)

-- A text is its first part and the others.
joined_parts : (s : ℕ) (part : List ℕ) (w : List ℕ) (ws : List (List ℕ)) (parts : List (List ℕ)) → parts ≡ w ∷ ws
    → join_with_byte s (part ∷ parts) ≡ part ++ s ∷ join_with_byte s parts
joined_parts s part w ws parts e = rw e refl

-- Holds if the text is cut at its first separator.
pub record Cut (s : ℕ) (text part rest : List ℕ) : Type 0 where
  pub whole : text ≡ part ++ s ∷ rest
  pub inside : list_all (is_other s) part ≡ true

pub cut_at : (s : ℕ) (text part rest : List ℕ) → parts_of s text ≡ part ∷ parts_of s rest → Cut s text part rest
cut_at s text part rest e =
    let p = some_part s [] rest in
    record {
      whole = sym (join_parts s text) ∙ ap (join_with_byte s) e ∙ joined_parts s part p.0 p.1 (parts_of s rest) p.2 ∙ ap
          (λ (l : List ℕ). part ++ s ∷ l) (join_parts s rest);
      inside = head_from s [] text part (parts_of s rest) refl e;
    }

-- Holds if the text has no separator.
pub record Lone (s : ℕ) (text part : List ℕ) : Type 0 where
  pub whole : text ≡ part
  pub inside : list_all (is_other s) text ≡ true

pub lone_at : (s : ℕ) (text part : List ℕ) → parts_of s text ≡ part ∷ [] → Lone s text part
lone_at s text part e =
    let whole : text ≡ part = sym (join_parts s text) ∙ ap (join_with_byte s) e in
    record {
      whole = whole;
      inside = subst (λ (l : List ℕ). list_all (is_other s) l ≡ true) (sym whole) (head_from s [] text part [] refl e);
    }

-- The first line.
pub line_at_lf : (text part rest : List ℕ) → parts_of 10 text ≡ part ∷ parts_of 10 rest
    → lines_of text ≡ without_return part ∷ lines_of rest
line_at_lf text part rest e = let c = cut_at 10 text part rest e in ap lines_of c.whole ∙ first_from [] part rest c.inside

-- The last line, without an LF.
pub line_at_end : (text part : List ℕ) → 0 < length text → parts_of 10 text ≡ part ∷ [] → lines_of text ≡ part ∷ lines_of []
line_at_end text part some e =
    let c = lone_at 10 text part e in
    let all : take (length text) text ≡ text = take-length text in
    let none : drop (length text) text ≡ [] = drop_of_length-le text (omega arith) in
    last_line text (length text) some none (ap (list_all is_inside) all ∙ c.inside)
    ∙ ap (λ (l : List ℕ). l ∷ lines_of (drop (length text) text)) (all ∙ c.whole) ∙ ap (λ (l : List ℕ). part ∷ lines_of l) none

-- Bytes that are no text write no number.
pub no_number : (low high : ℕ) (text : List ℕ) → ¬ (IsUtf8 text) → number_in low high text ≡ None
no_number low high text n = by (nat_le 1 (length text) && nat_le (length text) 18 && list_all is_digit text) refl
  where
    by : (b : Bool) → (nat_le 1 (length text) && nat_le (length text) 18 && list_all is_digit text) ≡ b → number_in low high text ≡ None
    by true e = absurd (n (hex_utf8 text (weaker is_digit is_hex (λ b d. grind arith) text (and_parts _ (list_all is_digit text) e).1)))
    by false e = rw e refl
