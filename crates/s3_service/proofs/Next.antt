-- The buckets, one after another.
use Rattle.text_and_lists.proofs.Rest.{after_first, after_found}
use Rattle.text_and_lists.proofs.Tree.{map_sorted}
use Rattle.text_and_lists.specs.Order.{text_cmp, text_total}
use Rattle.s3_service.specs.inner.Next.{IsNext, next_of, rest_of}
use Rattle.s3_types.specs.Store.{BucketContent, Buckets}
use Rattle.std.proofs.Common.{List, None, Option, Some, ap, refl, subst, sym, ℕ, [], ◌∙◌, ◌∷◌, ◌≡◌}
use Rattle.std.specs.List.{filter, slice_get}
use Rattle.std.specs.List.Sorted.{IsStrictlySortedBy}
use Rattle.std.specs.Map.{keys_of}
use Rattle.std.specs.Ordering.{is_lt}
use Rattle.std.specs.FinMap as fin

-- `next_of` is the next bucket, and the others follow it.
pub is_next : (after : Option (List ℕ)) (m : Buckets) → IsNext after m (next_of after m)
is_next after m = by after (rest_of after m) refl
  where
    with_first : (after : Option (List ℕ)) (e : List ℕ × BucketContent) (fs : List (List ℕ × BucketContent)) → rest_of after m ≡ e ∷ fs
        → fs ≡ rest_of (Some e.0) m
    with_first None e fs h =
        after_first text_total e fs (subst (λ (l : List (List ℕ × BucketContent)). IsStrictlySortedBy text_cmp (keys_of l)) h
        (map_sorted text_cmp m))
        ∙ ap (filter (λ f. is_lt (text_cmp e.0 f.0))) (sym h)
    with_first (Some k) e fs h = after_found text_total k (fin.entries m) (map_sorted text_cmp m) e fs h

    by : (after : Option (List ℕ)) (l : List (List ℕ × BucketContent)) → rest_of after m ≡ l → IsNext after m (next_of after m)
    by after [] h = subst (λ (l : List (List ℕ × BucketContent)). IsNext after m (slice_get l 0)) (sym h) h
    by after (e ∷ fs) h =
        subst (λ (l : List (List ℕ × BucketContent)). IsNext after m (slice_get l 0)) (sym h)
        (h ∙ ap (λ l. e ∷ l) (with_first after e fs h))
