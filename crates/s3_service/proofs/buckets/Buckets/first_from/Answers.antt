use Rattle.text_and_lists.proofs.Tree.{entries_made, first_taken}
use Rattle.text_and_lists.specs.Order.{text_cmp, text_total}
use Rattle.s3_types.specs.Store.{BucketContent}
use Rattle.std.proofs.Common.{List, Some, ap, sym, ℕ, ◌∙◌, ◌≡◌}
use Rattle.std.specs.BTreeMap.Range.{entries_between}
use Rattle.std.specs.List.{slice_get}
use Rattle.std.specs.Map.Iter.{deref_pair}
use Rattle.std.specs.Option.{option_map}
use Rattle.std.specs.Range.Bound.{bound_map}
use Rattle.std.specs.declared.ops.Bound.TheVariants.{Unbounded}
use Rattle.std.specs.FinMap as fin
use Rattle.s3_service.proofs.buckets.Buckets.first_from.Goals as goal

pub returns-in-Some : goal.returns-in-Some
returns-in-Some c =
    let whole : BucketContent = c.in-Some.bucket.now in
    let same : record { objects = c.objects.result.now; uploads = c.uploads.result.now } ≡ whole = λ i. record
    { objects = c.objects.ensures i; uploads = c.uploads.ensures i } in
    ap (λ (b : BucketContent). Some (c.in-Some.name.now, b)) same
    ∙ ap (option_map deref_pair) (sym c.in-Some.is)
    ∙ first_taken deref_pair c.range.result _ _ c.next.ensures.steps
    ∙ ap (λ (l : List (List ℕ × BucketContent)). slice_get l 0) (c.range.ensures.between tt)
    ∙ ap (λ (l : List (List ℕ × BucketContent)). slice_get (entries_between text_cmp (bound_map (λ x. x.now) c.args.start) Unbounded l) 0)
    (sym (entries_made text_total c.self.inside.held.entries c.range.ensures.ordered) ∙ ap fin.entries c.self.view_is)

pub returns-in-None : goal.returns-in-None
returns-in-None c =
    ap (option_map deref_pair) (sym c.in-None.is)
    ∙ first_taken deref_pair c.range.result _ _ c.next.ensures.steps
    ∙ ap (λ (l : List (List ℕ × BucketContent)). slice_get l 0) (c.range.ensures.between tt)
    ∙ ap (λ (l : List (List ℕ × BucketContent)). slice_get (entries_between text_cmp (bound_map (λ x. x.now) c.args.start) Unbounded l) 0)
    (sym (entries_made text_total c.self.inside.held.entries c.range.ensures.ordered) ∙ ap fin.entries c.self.view_is)
