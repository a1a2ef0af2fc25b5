-- A scene in which only one bucket changes.
use Rattle.s3_types.specs.Store.{BucketContent, Objects, Scene}
use Rattle.s3_types.specs.declared.object.Object.{Object}
use Rattle.std.specs.Prelude.{List, None, Option, Some, ℕ, ◌<◌, ◌≡◌, ◌≤◌, ◌⊎◌}
use Rattle.store_frame.specs.Held.{upload_at}
use Rattle.std.specs.FinMap as fin

-- The scene z with this content in a bucket, and this as the next upload's id.
abbrev pub placed : Scene → List ℕ → BucketContent → ℕ → Scene
placed z b d n = record {
  content = record { buckets = fin.insert z.content.buckets b d; next = n; minimum = z.content.minimum };
  files =
      z.files;
}

-- Uploads that were begun before are as they were, and the ids of later ones were not used then.
pub record IsLater (z : Scene) (c d : BucketContent) (n : ℕ) : Type 0 where
  pub drawn : z.content.next ≤ n
  pub uploads : (id : ℕ) → id < z.content.next → fin.get d.uploads id ≡ fin.get c.uploads id

-- The scene s is z, except that the objects of a bucket that held c satisfy `holds`, and that uploads may have begun there since.
pub record IsBeside (z : Scene) (b : List ℕ) (c : BucketContent) (holds : Objects → Type 0) (s : Scene) : Type 0 where
  pub content : BucketContent
  pub next : ℕ
  pub scene : s ≡ placed z b content next
  pub later : IsLater z c content next
  pub objects : holds content.objects

-- Holds of the bucket's objects if the bucket exists. If it does not, nothing changes and `absent` holds.
abbrev pub InFile : Option BucketContent → (Objects → Objects → Type 0) → Type 0 → Scene → List ℕ → Scene → Type 0
InFile None holds absent z b s = (s ≡ z) × absent
InFile (Some c) holds absent z b s = IsBeside z b c (holds c.objects) s

-- Holds if of the uploads that were begun since z at most this one is live.
abbrev pub NoneBut : Option ℕ → Scene → List ℕ → Scene → Type 0
NoneBut own z b s = (id : ℕ) → z.content.next ≤ id → upload_at z.content b id ≡ None → (own ≡ Some id → ⊥) → upload_at s.content b id ≡ None

-- Holds if no upload that was begun since z is live.
abbrev pub NoneLeft : Scene → List ℕ → Scene → Type 0
NoneLeft z b s = (id : ℕ) → z.content.next ≤ id → upload_at z.content b id ≡ None → upload_at s.content b id ≡ None

-- The object of a file with these bytes: it has no header.
abbrev pub object_of : List ℕ → Object
object_of bytes = record { bytes = bytes; header = None }

-- Holds if the objects are as they were, or have the whole file added.
abbrev pub IsFileOrNot : Objects → List ℕ → List ℕ → Objects → Type 0
IsFileOrNot z key bytes m = (m ≡ z) ⊎ (m ≡ fin.insert z key (object_of bytes))
