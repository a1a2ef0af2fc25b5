-- Requests by whether they touch a job's own keys, uploads and cluster files.
use Rattle.text_and_lists.specs.Members.{IsIn}
use Rattle.job_invariant.specs.Stores.{IsKnown}
use Rattle.job_invariant.specs.Told.{ends}
use Rattle.job_model.specs.Attempts.{Who}
use Rattle.job_model.specs.JobScript.{Script}
use Rattle.job_model.specs.Known.{Drawn}
use Rattle.magic_paths.specs.Layout.{cluster_prefix, magic_prefix}
use Rattle.s3_types.specs.Answer.{bucket_of}
use Rattle.s3_types.specs.Pages.{begins}
use Rattle.s3_types.specs.declared.request.Request.{Request}
use Rattle.std.specs.Prelude.{List, Some, false, true, ℕ, ◌≡◌}
use Rattle.store_frame.specs.Frame.{changed_keys, changed_paths, changed_upload}

-- The request changes no key below the job's magic directory, no upload that an attempt knows, and no path below the job's directory in the
-- cluster.
pub record IsForeign (w : Script) (drawn : Who → List Drawn) (r : Request) : Type 0 where
  pub keys : bucket_of r ≡ w.dest.bucket → (k : List ℕ) → IsIn k (changed_keys r) → begins (magic_prefix w.dest.key w.job) k ≡ false
  pub uploads : bucket_of r ≡ w.dest.bucket → (id : ℕ) → changed_upload r ≡ Some id → IsKnown drawn id → ⊥
  pub paths : (p : List ℕ) → IsIn p (changed_paths r) → begins (cluster_prefix w.job) p ≡ false

-- A request that the driver may send from the end of the set-up until it cleans up. It changes no key below the job's magic directory and
-- no path below the job's directory in the cluster. It changes an upload only by ending it.
pub record IsDriving (w : Script) (r : Request) : Type 0 where
  pub keys : bucket_of r ≡ w.dest.bucket → (k : List ℕ) → IsIn k (changed_keys r) → begins (magic_prefix w.dest.key w.job) k ≡ false
  pub uploads : (id : ℕ) → changed_upload r ≡ Some id → ends r id ≡ true
  pub paths : (p : List ℕ) → IsIn p (changed_paths r) → begins (cluster_prefix w.job) p ≡ false

-- A request of an attempt that knows these uploads. It changes only keys and paths in the job's own directories, and only uploads that the
-- attempt knows.
pub record IsOwn (w : Script) (ds : List Drawn) (r : Request) : Type 0 where
  pub bucket : (k : List ℕ) → IsIn k (changed_keys r) → bucket_of r ≡ w.dest.bucket
  pub keys : (k : List ℕ) → IsIn k (changed_keys r) → begins (magic_prefix w.dest.key w.job) k ≡ true
  pub uploads : (id : ℕ) → changed_upload r ≡ Some id → (d : Drawn) × IsIn d ds × (d.upload ≡ id)
  pub paths : (p : List ℕ) → IsIn p (changed_paths r) → begins (cluster_prefix w.job) p ≡ true
