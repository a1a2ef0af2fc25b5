use Rattle.text_and_lists.proofs.Tree.{entries_made}
use Rattle.multipart.proofs.Numbered.{all_numbered}
use Rattle.s3_types.specs.Multipart.{is_part_number}
use Rattle.std.proofs.Common.{List, ap, subst, sym, true, ℕ, ◌∙◌, ◌≡◌}
use Rattle.std.specs.Cmp.{nat_cmp_total}
use Rattle.std.specs.List.{AllByRecursion}
use Rattle.std.specs.FinMap as fin
use Rattle.multipart.proofs.part.Parts.iter.Goals as goal

pub returns-clause-entries : goal.returns-clause-entries
returns-clause-entries c =
    c.as_slice.ensures.value ∙ sym (entries_made nat_cmp_total c.self.inside.held.items c.self.invariant.0) ∙ ap fin.entries c.self.view_is

pub returns-clause-numbers : goal.returns-clause-numbers
returns-clause-numbers c =
    subst (λ (es : List (ℕ × List ℕ)). AllByRecursion (λ e. is_part_number e.0 ≡ true) es)
    (entries_made nat_cmp_total c.self.inside.held.items c.self.invariant.0 ∙ sym c.as_slice.ensures.value)
    (all_numbered (fin.from_entries c.self.inside.held.items) c.self.invariant.1)
