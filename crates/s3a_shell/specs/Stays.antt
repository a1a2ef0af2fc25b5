-- What a command leaves unchanged.
use Rattle.text_and_lists.specs.Members.{IsIn}
use Rattle.path_keys.specs.Paths.{Path}
use Rattle.s3_types.specs.Store.{BucketContent, Content}
use Rattle.s3_types.specs.declared.request.UploadRef.{UploadRef}
use Rattle.s3a_shell.specs.Uploading.{uploads_below}
use Rattle.s3a_words.specs.Kinds.{kind_of, path_of}
use Rattle.s3a_words.specs.declared.command.Command.{Command}
use Rattle.s3a_words.specs.declared.command.CommandKind.{CommandKind}
use Rattle.s3a_words.specs.declared.command.CommandKind.TheVariants.{Aborts}
use Rattle.std.specs.Prelude.{List, None, Option, Some, ℕ, ◌<◌, ◌≡◌, ◌≤◌}
use Rattle.store_frame.specs.Held.{upload_at}
use Rattle.std.specs.FinMap as fin

-- Every bucket but this one is unchanged. So are the uploads of this one that were begun before, but for those that are ended.
pub record OnlyIn (bucket : List ℕ) (Ended : ℕ → Type 0) (c d : Content) : Type 0 where
  pub others : (name : List ℕ) → (name ≡ bucket → ⊥) → fin.get d.buckets name ≡ fin.get c.buckets name
  pub uploads : (id : ℕ) → id < c.next → (Ended id → ⊥) → upload_at d bucket id ≡ upload_at c bucket id
  pub minimum : d.minimum ≡ c.minimum
  pub next : c.next ≤ d.next

-- The bucket that a command names.
abbrev pub bucket_in : Command → List ℕ
bucket_in command = (path_of command).bucket

-- Holds if the bucket exists and an upload of this id is live below the path.
abbrev pub IsBelow : Option BucketContent → Path → ℕ → Type 0
IsBelow None path id = ⊥
IsBelow (Some c) path id = (r : UploadRef) × IsIn r (uploads_below path c) × (r.upload ≡ id)

-- Holds for the ids of the uploads that a command of this kind ends.
abbrev pub ends_at : CommandKind → Path → Content → ℕ → Type 0
ends_at Aborts path c = λ id. IsBelow (fin.get c.buckets path.bucket) path id
ends_at _ path c = λ id. ⊥

-- Holds for the ids of the uploads that a command ends.
abbrev pub ended_by : Command → Content → ℕ → Type 0
ended_by command c = ends_at (kind_of command) (path_of command) c
