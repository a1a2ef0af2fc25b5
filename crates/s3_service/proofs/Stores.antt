-- A request that names a bucket.
use Rattle.s3_service.specs.inner.Named.{named}
use Rattle.s3_types.specs.Answer.{answer_at, answer_store, apply_at, apply_store, bucket_of}
use Rattle.s3_types.specs.Store.{Content}
use Rattle.s3_types.specs.declared.request.Request.{Request}
use Rattle.s3_types.specs.declared.request.Request.TheVariants.{ClusterDelete, ClusterGet, ClusterList, ClusterPut, ClusterRename}
use Rattle.s3_types.specs.declared.request.Request.TheVariants.{MakeBucket}
use Rattle.std.proofs.Common.{List, Some, ap, refl, sym, ℕ, ◌∙◌, ◌≡◌}
use Rattle.std.proofs.lemmas.Option.{same_Some}
use Rattle.std.specs.FinMap.{get}

-- The request names the bucket n, so the answer and the new store are those of that bucket.
pub record GoesTo (c : Content) (r : Request) (n : List ℕ) : Type 0 where
  pub bucket : bucket_of r ≡ n
  pub answers : answer_store c r ≡ answer_at (get c.buckets n) c.next c.minimum r
  pub leaves : apply_store c r ≡ apply_at (get c.buckets n) c r

same : (c : Content) (r : Request) (n : List ℕ) → bucket_of r ≡ n
    → answer_store c r ≡ answer_at (get c.buckets (bucket_of r)) c.next c.minimum r
    → apply_store c r ≡ apply_at (get c.buckets (bucket_of r)) c r → GoesTo c r n
same c r n e a l = record {
  bucket = e;
  answers = a ∙ ap (λ k. answer_at (get c.buckets k) c.next c.minimum r) e;
  leaves = l ∙ ap (λ k. apply_at (get c.buckets k) c r) e;
}

pub goes_to : (c : Content) (r : Request) (n : List ℕ) → Some n ≡ named r → GoesTo c r n
goes_to c (MakeBucket x) n e = absurd cc
goes_to c (ClusterPut p y) n e = absurd cc
goes_to c (ClusterRename s t) n e = absurd cc
goes_to c (ClusterGet p) n e = absurd cc
goes_to c (ClusterDelete p) n e = absurd cc
goes_to c (ClusterList p) n e = absurd cc
goes_to c _ n e = same c _ n (same_Some _ _ (sym e)) refl refl
