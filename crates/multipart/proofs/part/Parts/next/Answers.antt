use Rattle.text_and_lists.proofs.Tree.{entries_made}
use Rattle.multipart.proofs.Rows.{next_at}
use Rattle.std.proofs.Common.{List, ap, length, refl, sym, ℕ, ◌∙◌}
use Rattle.std.proofs.lemmas.Option.{slice_get_past, slice_get_read}
use Rattle.std.specs.BTreeMap.Range.{entries_between}
use Rattle.std.specs.Cmp.{nat_cmp_total}
use Rattle.std.specs.List.{slice_get}
use Rattle.std.specs.Ordering.{nat_cmp}
use Rattle.std.specs.declared.ops.Bound.TheVariants.{Excluded, Unbounded}
use Rattle.std.specs.FinMap as fin
use Rattle.multipart.proofs.part.Parts.next.Goals as goal

pub returns-then-at-held : goal.returns-then-at-held
returns-then-at-held c =
    sym (slice_get_read c.as_slice-held.result.now (length c.as_slice-held.result.now) c.place_behind-at.result c.index-held-at.result refl
    c.if-at-held.true c.index-held-at.is)
    ∙ next_at c.args.after c.as_slice-held.result.now c.place_behind-at.result c.place_behind-at.ensures
    ∙ ap (λ (l : List (ℕ × List ℕ)). slice_get (entries_between nat_cmp (Excluded c.args.after) Unbounded l) 0)
    (c.as_slice-held.ensures.value ∙ sym (entries_made nat_cmp_total c.self.inside.held.items c.self.invariant.0) ∙ ap fin.entries
    c.self.view_is)

pub returns : goal.returns
returns c =
    sym (slice_get_past c.as_slice-held.result.now c.place_behind-at.result c.if-at-held.false)
    ∙ next_at c.args.after c.as_slice-held.result.now c.place_behind-at.result c.place_behind-at.ensures
    ∙ ap (λ (l : List (ℕ × List ℕ)). slice_get (entries_between nat_cmp (Excluded c.args.after) Unbounded l) 0)
    (c.as_slice-held.ensures.value ∙ sym (entries_made nat_cmp_total c.self.inside.held.items c.self.invariant.0) ∙ ap fin.entries
    c.self.view_is)
