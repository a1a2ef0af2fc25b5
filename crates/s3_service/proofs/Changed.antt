-- Buckets after a change of one of them, by the entries of the tree that lends it.
use Rattle.text_and_lists.proofs.Tree.{get_made, insert_same, made_insert}
use Rattle.text_and_lists.specs.Order.{text_cmp, text_total}
use Rattle.s3_service.specs.inner.Changed.{changed, with_bucket}
use Rattle.s3_types.specs.Store.{BucketContent, Buckets}
use Rattle.std.proofs.Common.{List, None, Option, Some, ap, cond, sym, ℕ, ◌∙◌, ◌≡◌}
use Rattle.std.proofs.lemmas.Map.Lookups.{exact_bytes}
use Rattle.std.specs.BTreeMap.{is_at}
use Rattle.std.specs.Map.{lookup}
use Rattle.std.specs.FinMap as map

pub present : (m : Buckets) (k : List ℕ) (f : BucketContent → BucketContent) (b : BucketContent) → map.get m k ≡ Some b
    → with_bucket m k f ≡ map.insert m k (f b)
present m k f b e = ap (λ (o : Option BucketContent). changed o m k f) e

pub absent : (m : Buckets) (k : List ℕ) (f : BucketContent → BucketContent) → map.get m k ≡ None → with_bucket m k f ≡ m
absent m k f e = ap (λ (o : Option BucketContent). changed o m k f) e

abbrev Row : Type 0
Row = List (List ℕ × BucketContent)

module _ (es : Row) (m : Buckets) (k : List ℕ) (is : map.from_entries {R = text_cmp} es ≡ m) where
  -- The lookup in the tree returns the bucket of that name.
  pub found : (o : Option BucketContent) → o ≡ lookup (is_at (text_cmp k)) es → map.get m k ≡ o
  found o e = ap (λ (m : Buckets). map.get m k) (sym is) ∙ get_made text_total es k ∙ sym e

  module _ (fs : Row) (w b : BucketContent) (was : Some b ≡ lookup (is_at (text_cmp k)) es)
      (h : (q : List ℕ) → lookup (is_at (text_cmp q)) fs ≡ cond (is_at (text_cmp k) q) (Some w) (lookup (is_at (text_cmp q)) es)) where
    -- The bucket that was lent has changed.
    pub written : (f : BucketContent → BucketContent) → w ≡ f b → map.from_entries {R = text_cmp} fs ≡ with_bucket m k f
    written f e = made_insert text_total exact_bytes es fs k w h ∙ (λ i. map.insert (is i) k (e i)) ∙ sym
        (present m k f b (found (Some b) was))

    -- The bucket that was lent has not changed.
    pub unwritten : w ≡ b → map.from_entries {R = text_cmp} fs ≡ m
    unwritten e = made_insert text_total exact_bytes es fs k w h ∙ (λ i. map.insert (is i) k (e i)) ∙ insert_same text_total exact_bytes m k
        b (found (Some b) was)
