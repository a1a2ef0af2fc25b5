use Rattle.text_and_lists.proofs.Viewed.{entries_viewed}
use Rattle.text_and_lists.specs.Order.{text_cmp, text_total}
use Rattle.object_store.proofs.Own.{by_own_key, first_lent}
use Rattle.object_store.specs.declared.objects.Held.{Held}
use Rattle.s3_types.specs.declared.object.Object.{Object}
use Rattle.std.proofs.Common.{List, None, Some, ap, sym, ℕ, ◌∙◌, ◌≡◌}
use Rattle.std.specs.BTreeMap.Range.{entries_between}
use Rattle.std.specs.List.{slice_get}
use Rattle.std.specs.Option.{option_map}
use Rattle.std.specs.Range.Bound.{bound_map}
use Rattle.std.specs.declared.ops.Bound.TheVariants.{Unbounded}
use Rattle.std.specs.FinMap as map
use Rattle.object_store.proofs.objects.Objects.first_from.Goals as goal

pub returns-in-Some : goal.returns-in-Some
returns-in-Some c =
    let es : List (List ℕ × Held) = c.self.inside.held.entries in
    let first : Some (c.in-Some.field-0-0.now, c.in-Some.held.now) ≡ slice_get
    (entries_between text_cmp (bound_map (λ x. x.now) c.args.start) Unbounded es) 0 =
    ap (λ (l : List (List ℕ × Held)). slice_get l 0) (sym c.in-Some.ensures.steps ∙ c.range.ensures.between tt) in
    ap (option_map by_own_key) first
    ∙ first_lent es (bound_map (λ x. x.now) c.args.start) Unbounded c.self.invariant
    ∙ ap (λ (l : List (List ℕ × Object)). slice_get (entries_between text_cmp (bound_map (λ x. x.now) c.args.start) Unbounded l) 0)
    (sym (entries_viewed (λ (h : Held). h.object) text_total es c.range.ensures.ordered) ∙ ap map.entries c.self.view_is)

pub returns-in-None : goal.returns-in-None
returns-in-None c =
    let es : List (List ℕ × Held) = c.self.inside.held.entries in
    let first : None ≡ slice_get (entries_between text_cmp (bound_map (λ x. x.now) c.args.start) Unbounded es) 0 =
    ap (λ (l : List (List ℕ × Held)). slice_get l 0) (sym c.in-None.ensures.steps.0 ∙ c.range.ensures.between tt) in
    ap (option_map by_own_key) first
    ∙ first_lent es (bound_map (λ x. x.now) c.args.start) Unbounded c.self.invariant
    ∙ ap (λ (l : List (List ℕ × Object)). slice_get (entries_between text_cmp (bound_map (λ x. x.now) c.args.start) Unbounded l) 0)
    (sym (entries_viewed (λ (h : Held). h.object) text_total es c.range.ensures.ordered) ∙ ap map.entries c.self.view_is)
