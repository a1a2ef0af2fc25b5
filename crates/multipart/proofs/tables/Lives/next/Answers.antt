use Rattle.text_and_lists.proofs.Tree.{entries_made, first_taken}
use Rattle.s3_types.specs.Store.{Upload}
use Rattle.std.proofs.Common.{List, ap, sym, ℕ, ◌∙◌}
use Rattle.std.specs.BTreeMap.Range.{entries_between}
use Rattle.std.specs.Cmp.{nat_cmp_total}
use Rattle.std.specs.List.{slice_get}
use Rattle.std.specs.Map.Iter.{deref_pair}
use Rattle.std.specs.Option.{option_map}
use Rattle.std.specs.Ordering.{nat_cmp}
use Rattle.std.specs.declared.ops.Bound.TheVariants.{Excluded, Unbounded}
use Rattle.std.specs.FinMap as fin
use Rattle.multipart.proofs.tables.Lives.next.Goals as goal

pub returns-in-Some : goal.returns-in-Some
returns-in-Some c =
    ap (option_map deref_pair) (sym c.in-Some.is)
    ∙ first_taken deref_pair c.range.result _ _ c.next.ensures.steps
    ∙ ap (λ (l : List (ℕ × Upload)). slice_get l 0) (c.range.ensures.between tt)
    ∙ ap (λ (l : List (ℕ × Upload)). slice_get (entries_between nat_cmp (Excluded c.args.after) Unbounded l) 0)
    (sym (entries_made nat_cmp_total c.self.inside.held.entries c.range.ensures.ordered) ∙ ap fin.entries c.self.view_is)

pub returns-in-None : goal.returns-in-None
returns-in-None c =
    ap (option_map deref_pair) (sym c.in-None.is)
    ∙ first_taken deref_pair c.range.result _ _ c.next.ensures.steps
    ∙ ap (λ (l : List (ℕ × Upload)). slice_get l 0) (c.range.ensures.between tt)
    ∙ ap (λ (l : List (ℕ × Upload)). slice_get (entries_between nat_cmp (Excluded c.args.after) Unbounded l) 0)
    (sym (entries_made nat_cmp_total c.self.inside.held.entries c.range.ensures.ordered) ∙ ap fin.entries c.self.view_is)
