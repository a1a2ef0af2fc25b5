-- The object at a key of a bucket, and the live upload with an id.
use Rattle.s3_types.specs.Store.{BucketContent, Content, Upload}
use Rattle.s3_types.specs.declared.object.Object.{Object}
use Rattle.std.specs.Prelude.{List, None, Option, Some, ℕ, ◌≡◌}
use Rattle.std.specs.FinMap as fin

-- The object at a key of a bucket, or None.
abbrev pub object_in : Option BucketContent → List ℕ → Option Object
object_in None k = None
object_in (Some b) k = fin.get b.objects k

-- The object at a key of the bucket with this name, or None.
abbrev pub object_at : Content → List ℕ → List ℕ → Option Object
object_at c bucket k = object_in (fin.get c.buckets bucket) k

-- The live upload with an id in a bucket, or None.
abbrev pub upload_in : Option BucketContent → ℕ → Option Upload
upload_in None id = None
upload_in (Some b) id = fin.get b.uploads id

-- The live upload with an id in the bucket with this name, or None.
abbrev pub upload_at : Content → List ℕ → ℕ → Option Upload
upload_at c bucket id = upload_in (fin.get c.buckets bucket) id

-- The bucket exists.
abbrev pub HasBucket : Content → List ℕ → Type 0
HasBucket c n = (b : BucketContent) × (fin.get c.buckets n ≡ Some b)
