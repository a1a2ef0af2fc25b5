-- Buckets after a change of one of them.
use Rattle.s3_types.specs.Store.{BucketContent, Buckets}
use Rattle.std.specs.Prelude.{List, None, Option, Some, ℕ}
use Rattle.std.specs.FinMap as fin

-- The buckets with this one changed, if it exists.
abbrev pub changed : Option BucketContent → Buckets → List ℕ → (BucketContent → BucketContent) → Buckets
changed None m k f = m
changed (Some b) m k f = fin.insert m k (f b)

-- The buckets with the one of this name changed, if it exists.
abbrev pub with_bucket : Buckets → List ℕ → (BucketContent → BucketContent) → Buckets
with_bucket m k f = changed (fin.get m k) m k f
