use Rattle.text_and_lists.proofs.Tree.{len_made}
use Rattle.multipart.proofs.Numbered.{few_parts}
use Rattle.std.proofs.Common.{List, ap, arith, length, subst, sym, ℕ, ◌∙◌, ◌≡◌, ◌≤◌}
use Rattle.std.specs.Cmp.{nat_cmp_total}
use Rattle.std.specs.Ordering.{nat_cmp}
use Rattle.std.specs.FinMap as fin
use Rattle.multipart.proofs.part.Parts.count.Goals as goal

pub returns-clause-count : goal.returns-clause-count
returns-clause-count c =
    ap (λ (l : List (ℕ × List ℕ)). length l) c.as_slice.ensures.value ∙ sym (len_made nat_cmp_total c.self.inside.held.items
    c.self.invariant.0) ∙ ap fin.len c.self.view_is

pub returns-clause-most : goal.returns-clause-most
returns-clause-most c =
    let e : length c.as_slice.result.now ≡ fin.len (fin.from_entries {R = nat_cmp} c.self.inside.held.items) = ap
    (λ (l : List (ℕ × List ℕ)). length l) c.as_slice.ensures.value ∙ sym (len_made nat_cmp_total c.self.inside.held.items
    c.self.invariant.0) in
    subst (λ n. n ≤ 10000) (sym e) (few_parts (fin.from_entries c.self.inside.held.items) c.self.invariant.1)

pub overflow_cast-result : goal.overflow_cast-result
overflow_cast-result c =
    let e : length c.as_slice.result.now ≡ fin.len (fin.from_entries {R = nat_cmp} c.self.inside.held.items) = ap
    (λ (l : List (ℕ × List ℕ)). length l) c.as_slice.ensures.value ∙ sym (len_made nat_cmp_total c.self.inside.held.items
    c.self.invariant.0) in
    let m : length c.as_slice.result.now ≤ 10000 = subst (λ n. n ≤ 10000) (sym e)
    (few_parts (fin.from_entries c.self.inside.held.items) c.self.invariant.1) in
    omega (arith, m)
