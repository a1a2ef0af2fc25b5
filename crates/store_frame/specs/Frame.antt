-- Which keys, uploads and cluster files a request names; nothing else changes.
use Rattle.text_and_lists.specs.Members.{IsIn}
use Rattle.s3_types.specs.Answer.{bucket_of}
use Rattle.s3_types.specs.Store.{BucketContent, Scene, Upload}
use Rattle.s3_types.specs.declared.request.Request.{Request}
use Rattle.s3_types.specs.declared.request.Request.TheVariants.{AbortUpload, ClusterDelete, ClusterPut, ClusterRename, CompleteUpload}
use Rattle.s3_types.specs.declared.request.Request.TheVariants.{CopyObject, DeleteObject, DeleteObjects, PutObject, UploadPart}
use Rattle.std.specs.Prelude.{List, None, Option, Some, ℕ, [], ◌<◌, ◌∷◌, ◌≡◌, ◌≤◌}
use Rattle.store_frame.specs.Held.{object_at, upload_at}
use Rattle.std.specs.FinMap as fin

-- The keys at which a request may change the object.
abbrev pub changed_keys : Request → List (List ℕ)
changed_keys (PutObject bucket key bytes header) = key ∷ []
changed_keys (DeleteObject bucket key) = key ∷ []
changed_keys (DeleteObjects bucket keys) = keys
changed_keys (CopyObject bucket source target) = target ∷ []
changed_keys (CompleteUpload bucket key id parts) = key ∷ []
changed_keys _ = []

-- The upload that the request may change or end.
abbrev pub changed_upload : Request → Option ℕ
changed_upload (UploadPart bucket key id number bytes) = Some id
changed_upload (CompleteUpload bucket key id parts) = Some id
changed_upload (AbortUpload bucket key id) = Some id
changed_upload _ = None

-- The paths in the cluster at which the request may change the file.
abbrev pub changed_paths : Request → List (List ℕ)
changed_paths (ClusterPut path bytes) = path ∷ []
changed_paths (ClusterRename source target) = source ∷ target ∷ []
changed_paths (ClusterDelete path) = path ∷ []
changed_paths _ = []

-- From scene s to scene t nothing changes in the bucket n or in the cluster's files but what the request names. New uploads have ids that
-- were not used before.
pub record Frame (s t : Scene) (n : List ℕ) (r : Request) : Type 0 where
  pub there : (b : BucketContent) → fin.get s.content.buckets n ≡ Some b → (x : BucketContent) × (fin.get t.content.buckets n ≡ Some x)
  pub least : t.content.minimum ≡ s.content.minimum
  pub later : s.content.next ≤ t.content.next
  pub keys : (k : List ℕ) → (bucket_of r ≡ n → IsIn k (changed_keys r) → ⊥) → object_at t.content n k ≡ object_at s.content n k
  pub uploads : (id : ℕ) → (bucket_of r ≡ n → changed_upload r ≡ Some id → ⊥) → id < s.content.next
      → upload_at t.content n id ≡ upload_at s.content n id
  -- If all ids were below the next one, they still are.
  pub fresh : ((id : ℕ) (x : Upload) → upload_at s.content n id ≡ Some x → id < s.content.next) → (id : ℕ) (x : Upload)
      → upload_at t.content n id ≡ Some x → id < t.content.next
  pub files : (p : List ℕ) → (IsIn p (changed_paths r) → ⊥) → fin.get t.files p ≡ fin.get s.files p
