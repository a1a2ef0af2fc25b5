use Rattle.text_and_lists.proofs.Tree.{entries_made}
use Rattle.multipart.proofs.Keyed.{refs_total}
use Rattle.s3_types.specs.Multipart.{ref_cmp}
use Rattle.s3_types.specs.declared.request.UploadRef.{UploadRef}
use Rattle.std.proofs.Common.{List, ap, sym, ℕ, ◌∙◌}
use Rattle.std.specs.BTreeMap.Range.{entries_between}
use Rattle.std.specs.Range.Bound.{bound_map}
use Rattle.std.specs.declared.ops.Bound.TheVariants.{Unbounded}
use Rattle.std.specs.FinMap as fin
use Rattle.multipart.proofs.tables.Index.from.Goals as goal

pub returns : goal.returns
returns c =
    c.range.ensures.between tt
    ∙ ap (λ (l : List (UploadRef × List ℕ)). entries_between ref_cmp (bound_map (λ p. p.now) c.args.start) Unbounded l)
    (sym (entries_made refs_total c.self.inside.held.entries c.range.ensures.ordered) ∙ ap fin.entries c.self.view_is)
