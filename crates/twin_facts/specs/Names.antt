-- What a request names, and requests of a job that name only what is the job's own or nobody's.
use Rattle.text_and_lists.specs.Members.{IsIn}
use Rattle.job_invariant.specs.Stores.{IsKnown}
use Rattle.job_model.specs.Attempts.{Who}
use Rattle.job_model.specs.JobScript.{Script}
use Rattle.job_model.specs.Known.{Drawn}
use Rattle.job_protocol.specs.JobCommits.{is_no_magic}
use Rattle.magic_paths.specs.Layout.{cluster_prefix, magic_prefix}
use Rattle.s3_types.specs.Answer.{bucket_of}
use Rattle.s3_types.specs.Pages.{begins}
use Rattle.s3_types.specs.declared.request.Request.{Request}
use Rattle.s3_types.specs.declared.request.Request.TheVariants.{AbortUpload, ClusterDelete, ClusterGet, ClusterPut, ClusterRename}
use Rattle.s3_types.specs.declared.request.Request.TheVariants.{CompleteUpload, CopyObject, CreateUpload, DeleteObject, DeleteObjects}
use Rattle.s3_types.specs.declared.request.Request.TheVariants.{GetObject, HeadObject, ListParts, PutObject, UploadPart}
use Rattle.std.specs.Prelude.{Bool, List, None, Option, Some, false, true, ℕ, [], ◌∷◌, ◌≡◌, ◌⊎◌}

-- The keys that a request names. The prefix of a listing and its start name nothing.
abbrev pub named_keys : Request → List (List ℕ)
named_keys (PutObject bucket key bytes header) = key ∷ []
named_keys (GetObject bucket key) = key ∷ []
named_keys (HeadObject bucket key) = key ∷ []
named_keys (DeleteObject bucket key) = key ∷ []
named_keys (DeleteObjects bucket keys) = keys
named_keys (CopyObject bucket source target) = source ∷ target ∷ []
named_keys (CreateUpload bucket key) = key ∷ []
named_keys (UploadPart bucket key id number bytes) = key ∷ []
named_keys (CompleteUpload bucket key id parts) = key ∷ []
named_keys (AbortUpload bucket key id) = key ∷ []
named_keys (ListParts bucket key id) = key ∷ []
named_keys _ = []

-- The upload that a request names.
abbrev pub named_upload : Request → Option ℕ
named_upload (UploadPart bucket key id number bytes) = Some id
named_upload (CompleteUpload bucket key id parts) = Some id
named_upload (AbortUpload bucket key id) = Some id
named_upload (ListParts bucket key id) = Some id
named_upload _ = None

-- The paths in the cluster that a request names.
abbrev pub named_paths : Request → List (List ℕ)
named_paths (ClusterPut path bytes) = path ∷ []
named_paths (ClusterRename source target) = source ∷ target ∷ []
named_paths (ClusterGet path) = path ∷ []
named_paths (ClusterDelete path) = path ∷ []
named_paths _ = []

-- ---- what a job's requests may name

-- The key is in no job's magic directory, or below the magic directory of this job.
abbrev pub IsOwnKey : Script → List ℕ → Type 0
IsOwnKey w k = (is_no_magic w k ≡ true) ⊎ (begins (magic_prefix w.dest.key w.job) k ≡ true)

-- The request names only keys that are the job's own or nobody's, uploads that an attempt of the job knows, and the job's own paths in the
-- cluster.
pub record NamesOwn (w : Script) (drawn : Who → List Drawn) (r : Request) : Type 0 where
  pub keys : (k : List ℕ) → IsIn k (named_keys r) → IsOwnKey w k
  pub uploads : (id : ℕ) → named_upload r ≡ Some id → IsKnown drawn id
  pub paths : (p : List ℕ) → IsIn p (named_paths r) → begins (cluster_prefix w.job) p ≡ true

-- ---- strangers

-- A set of upload ids.
abbrev pub Ids : Type 0
Ids = ℕ → Bool

-- In the job's bucket the request names no key below the job's magic directory and none of these uploads; and it names no path below the
-- job's directory in the cluster.
pub record IsStranger (w : Script) (drew : Ids) (r : Request) : Type 0 where
  pub keys : bucket_of r ≡ w.dest.bucket → (k : List ℕ) → IsIn k (named_keys r) → begins (magic_prefix w.dest.key w.job) k ≡ false
  pub uploads : bucket_of r ≡ w.dest.bucket → (id : ℕ) → named_upload r ≡ Some id → drew id ≡ false
  pub paths : (p : List ℕ) → IsIn p (named_paths r) → begins (cluster_prefix w.job) p ≡ false
