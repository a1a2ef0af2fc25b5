-- The ids of uploads are below the next id.
use Rattle.s3_types.specs.Store.{BucketContent, Buckets, Uploads}
use Rattle.std.specs.Prelude.{List, None, Some, ℕ, ◌≡◌, ◌≤◌}
use Rattle.std.specs.FinMap as fin

-- No upload has id n or a greater one.
abbrev pub IsFresh : Uploads → ℕ → Type 0
IsFresh m n = (i : ℕ) → n ≤ i → fin.get m i ≡ None

-- No bucket has an upload with id n or a greater one.
abbrev pub AreBelow : Buckets → ℕ → Type 0
AreBelow m n = (k : List ℕ) (b : BucketContent) → fin.get m k ≡ Some b → IsFresh b.uploads n
