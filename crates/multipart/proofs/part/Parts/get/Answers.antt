use Rattle.multipart.proofs.Rows.{found_at, none_at}
use Rattle.std.proofs.Common.{List, Some, ap, is_some, subst, sym, ℕ, ◌∙◌}
use Rattle.std.specs.Cmp.{nat_cmp_total}
use Rattle.std.specs.FinMap.{get-from_entries}
use Rattle.std.specs.FinMap.Entries.{find}
use Rattle.std.specs.List.Sorted.{IsStrictlySortedBy}
use Rattle.std.specs.Map.{keys_of}
use Rattle.std.specs.Ordering.{nat_cmp}
use Rattle.std.specs.FinMap as fin
use Rattle.multipart.proofs.part.Parts.get.Goals as goal

pub returns-in-Ok-clause-found : goal.returns-in-Ok-clause-found
returns-in-Ok-clause-found c =
    ap (λ (y : ℕ × List ℕ). Some y.1) (sym c.index-held-at.is)
    ∙ sym (ap (λ m. fin.get m c.args.number) (sym c.self.view_is) ∙ get-from_entries nat_cmp_total c.self.inside.held.items c.args.number ∙
    ap (find nat_cmp c.args.number) (sym c.as_slice-held.ensures.value)
    ∙ found_at c.args.number c.as_slice-held.result.now c.in-Ok.at c.index-held-at.result c.in-Ok.ensures.found.0 c.in-Ok.ensures.found.1
    c.index-held-at.is)

pub returns-in-Ok-clause-number : goal.returns-in-Ok-clause-number
returns-in-Ok-clause-number c = λ _.
    c.self.invariant.1 c.args.number
    (ap is_some (get-from_entries nat_cmp_total c.self.inside.held.items c.args.number ∙ ap (find nat_cmp c.args.number)
    (sym c.as_slice-held.ensures.value)
    ∙ found_at c.args.number c.as_slice-held.result.now c.in-Ok.at c.index-held-at.result c.in-Ok.ensures.found.0 c.in-Ok.ensures.found.1
    c.index-held-at.is))

pub returns-in-Err-clause-found : goal.returns-in-Err-clause-found
returns-in-Err-clause-found c =
    let sorted = subst (λ (l : List (ℕ × List ℕ)). IsStrictlySortedBy nat_cmp (keys_of l)) (sym c.as_slice-held.ensures.value)
    c.self.invariant.0 in
    sym (ap (λ m. fin.get m c.args.number) (sym c.self.view_is) ∙ get-from_entries nat_cmp_total c.self.inside.held.items c.args.number ∙ ap
    (find nat_cmp c.args.number) (sym c.as_slice-held.ensures.value)
    ∙ none_at c.args.number c.as_slice-held.result.now c.in-Err.field-0 sorted c.in-Err.ensures.absent.0 c.in-Err.ensures.absent.1)
