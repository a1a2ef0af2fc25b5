-- Which parts of a store belong to a job, and what one request of the job may change.
use Rattle.text_and_lists.specs.Order.{text_eq}
use Rattle.job_model.specs.JobScript.{Script}
use Rattle.job_protocol.specs.Setup.{dest_prefix}
use Rattle.job_protocol.specs.View.{Same, object_at, view}
use Rattle.s3_types.specs.Moment.{is_effective}
use Rattle.s3_types.specs.Pages.{begins}
use Rattle.s3_types.specs.Store.{BucketContent, Content, Scene, Upload}
use Rattle.s3_types.specs.declared.journal.Entry.{Entry}
use Rattle.s3_types.specs.declared.object.Object.{Object}
use Rattle.s3_types.specs.declared.request.Actor.TheVariants.{Driver}
use Rattle.s3_types.specs.declared.request.Committer.{Committer}
use Rattle.s3_types.specs.declared.request.Committer.TheVariants.{Magic}
use Rattle.s3_types.specs.declared.request.Request.{Request}
use Rattle.s3_types.specs.declared.request.Request.TheVariants.{CompleteUpload, CopyObject, CreateUpload, DeleteObject, DeleteObjects}
use Rattle.s3_types.specs.declared.request.Request.TheVariants.{UploadPart}
use Rattle.std.specs.Prelude.{Bool, List, None, Option, Some, false, true, ℕ, ◌≡◌, ◌⊎◌}
use Rattle.std.specs.FinMap as fin
use Rattle.magic_paths.specs.Layout as layout

-- The live upload with this id in a bucket, or none.
abbrev pub upload_in : Option BucketContent → ℕ → Option Upload
upload_in None id = None
upload_in (Some b) id = fin.get b.uploads id

-- The live upload with this id in the bucket with this name, or none.
abbrev pub upload_at : Content → List ℕ → ℕ → Option Upload
upload_at c bucket id = upload_in (fin.get c.buckets bucket) id

-- Holds if a live upload is unchanged, or its key is below the destination.
abbrev pub SameOutsideUpload : Script → Option Upload → Option Upload → Type 0
SameOutsideUpload w (Some u) (Some v) = begins (dest_prefix w) u.key ≡ false → u ≡ v
SameOutsideUpload w (Some u) None = begins (dest_prefix w) u.key ≡ true
SameOutsideUpload w None (Some v) = begins (dest_prefix w) v.key ≡ true
SameOutsideUpload w None None = Unit {0}

-- Holds if two contents differ only below the job's destination: in its objects and live uploads there.
pub record SameOutside (w : Script) (c d : Content) : Type 0 where
  -- Other buckets are the same.
  pub buckets : (b : List ℕ) → text_eq b w.dest.bucket ≡ false → fin.get d.buckets b ≡ fin.get c.buckets b
  -- Objects that are not below the destination are the same.
  pub objects : (k : List ℕ) → begins (dest_prefix w) k ≡ false → object_at d w.dest.bucket k ≡ object_at c w.dest.bucket k
  -- Live uploads whose keys are not below the destination are the same.
  pub uploads : (id : ℕ) → SameOutsideUpload w (upload_at c w.dest.bucket id) (upload_at d w.dest.bucket id)

-- Holds if no live upload has a key below the destination.
abbrev pub NoneLive : Script → Content → Type 0
NoneLive w c = (id : ℕ) (u : Upload) → upload_at c w.dest.bucket id ≡ Some u → begins (dest_prefix w) u.key ≡ false

-- Holds if no key is below the job's magic directory.
abbrev pub NoMagicKey : Script → Content → Type 0
NoMagicKey w c = (k : List ℕ) (o : Object) → object_at c w.dest.bucket k ≡ Some o → begins (layout.magic_prefix w.dest.key w.job) k ≡ false

-- Holds if the cluster has no file of the job.
abbrev pub NoClusterFile : Script → Scene → Type 0
NoClusterFile w s = (p bytes : List ℕ) → fin.get s.files p ≡ Some bytes → begins (layout.cluster_prefix w.job) p ≡ false

-- Holds if no live upload is below the destination, and the job's magic directory (magic) or the job's files in the cluster (staging) are
-- gone.
abbrev pub NothingLeft : Committer → Script → Scene → Type 0
NothingLeft Magic w s = NoneLive w s.content × NoMagicKey w s.content
NothingLeft _ w s = NoneLive w s.content × NoClusterFile w s

-- ---- one request of the job

-- True if the request is a CopyObject.
abbrev pub is_copy : Request → Bool
is_copy (CopyObject bucket source target) = true
is_copy _ = false

-- True if the request creates an upload or sends a part of one.
abbrev pub sends_data : Request → Bool
sends_data (CreateUpload bucket key) = true
sends_data (UploadPart bucket key id number bytes) = true
sends_data _ = false

-- True if the request completes an upload or deletes.
abbrev pub may_show : Request → Bool
may_show (CompleteUpload bucket key id parts) = true
may_show (DeleteObject bucket key) = true
may_show (DeleteObjects bucket keys) = true
may_show _ = false

-- Holds if an entry of the job copies nothing, and changes only what it may between contents `c` and `d`.
pub record IsZeroRename (w : Script) (e : Entry) (c d : Content) : Type 0 where
  -- Files are never copied.
  pub uncopied : is_copy e.request ≡ false
  -- The driver sends no data.
  pub no_data : e.actor ≡ Driver → sends_data e.request ≡ false
  -- Only a completion or deletion of the driver that takes effect changes what readers see.
  pub shows : Same (view w.dest d) (view w.dest c) ⊎ ((e.actor ≡ Driver) × (may_show e.request ≡ true) × (is_effective e.outcome ≡ true))
  -- Nothing outside the destination changes.
  pub outside : SameOutside w c d
