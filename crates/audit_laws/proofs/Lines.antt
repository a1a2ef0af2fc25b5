-- One more line.
use Rattle.std.proofs.Common.{Err, List, Ok, Option, Result, Some, [], ap, subst, sym, ℕ, ◌++◌, ◌∙◌, ◌∷◌, ◌≡◌}
use Rattle.std.proofs.lemmas.List.{append-nil, append_assoc}
use Rattle.text_and_lists.specs.Reading.{◌>>=◌}
use Rattle.trace_reader.specs.declared.fault.TraceFault.{TraceFault}
use Rattle.audit_model.specs.Moments.{moment_if, moments, moments_behind, said_by}
use Rattle.audit_model.specs.Recorded.{Recorded, read_after}
use Rattle.audit_laws.specs.LineByLine.{OneMore}

-- The facts and the moments go on with one more line.
abbrev GoesOn : List (List ℕ) → Option Recorded → List ℕ → Recorded → Type 0
GoesOn lines start l next = (said_by (lines ++ l ∷ []) start ≡ Ok (Some next))
    × (moments (lines ++ l ∷ []) start ≡ moments lines start ++ moment_if next)

goes_on : (lines : List (List ℕ)) (start said : Option Recorded) (l : List ℕ) (next : Recorded)
    → said_by lines start ≡ Ok said → read_after said l ≡ Ok next → GoesOn lines start l next
goes_on [] start said l next is read = by (subst (λ s. read_after s l ≡ Ok next) (sym same) read)
  where
    same : start ≡ said
    same = cc is

    by : read_after start l ≡ Ok next → GoesOn [] start l next
    by e = (ap (λ r. r >>= λ x. Ok (Some x)) e, ap (λ r. moments_behind r (moments [])) e ∙ append-nil (moment_if next))
goes_on (x ∷ lines) start said l next is read = by (read_after start x) is (λ r e. goes_on lines (Some r) said l next e read)
  where
    by : (r : Result Recorded TraceFault) → (r >>= λ y. said_by lines (Some y)) ≡ Ok said
        → ((y : Recorded) → said_by lines (Some y) ≡ Ok said → GoesOn lines (Some y) l next)
        → ((r >>= λ y. said_by (lines ++ l ∷ []) (Some y)) ≡ Ok (Some next))
        × (moments_behind r (moments (lines ++ l ∷ [])) ≡ moments_behind r (moments lines) ++ moment_if next)
    by (Err fault) e rest = absurd (none fault e)
      where
        none : (f : TraceFault) → Err f ≡ Ok said → ⊥
        none f e = cc
    by (Ok y) e rest =
        let h = rest y e in
        (h.0, ap (λ ms. moment_if y ++ ms) h.1 ∙ sym (append_assoc (moment_if y) (moments lines (Some y)) (moment_if next)))

fault_first : (lines rest : List (List ℕ)) (start said : Option Recorded) (l : List ℕ) (fault : TraceFault)
    → said_by lines start ≡ Ok said → read_after said l ≡ Err fault → said_by (lines ++ l ∷ rest) start ≡ Err fault
fault_first [] rest start said l fault is read = by (subst (λ s. read_after s l ≡ Err fault) (sym same) read)
  where
    same : start ≡ said
    same = cc is

    by : read_after start l ≡ Err fault → said_by (l ∷ rest) start ≡ Err fault
    by e = ap (λ r. r >>= λ x. said_by rest (Some x)) e
fault_first (x ∷ lines) rest start said l fault is read =
    by (read_after start x) is (λ r e. fault_first lines rest (Some r) said l fault e read)
  where
    by : (r : Result Recorded TraceFault) → (r >>= λ y. said_by lines (Some y)) ≡ Ok said
        → ((y : Recorded) → said_by lines (Some y) ≡ Ok said → said_by (lines ++ l ∷ rest) (Some y) ≡ Err fault)
        → (r >>= λ y. said_by (lines ++ l ∷ rest) (Some y)) ≡ Err fault
    by (Err f) e more = absurd (none f e)
      where
        none : (f : TraceFault) → Err f ≡ Ok said → ⊥
        none f e = cc
    by (Ok y) e more = more y e

pub one_more : OneMore
one_more = record { goes_on = goes_on; fault = fault_first }
