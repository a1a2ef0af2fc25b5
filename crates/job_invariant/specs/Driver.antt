-- The states of the driver's commit, and of its abort or clean of the job, that fit the facts.
use Rattle.text_and_lists.specs.Members.{IsIn}
use Rattle.job_invariant.specs.Facts.{AreCommits, knowing}
use Rattle.job_invariant.specs.Foreign.{IsDriving}
use Rattle.job_model.specs.Attempts.{Who}
use Rattle.job_model.specs.Files.{File}
use Rattle.job_model.specs.JobScript.{Script}
use Rattle.job_model.specs.Known.{Drawn}
use Rattle.job_protocol.specs.Cleanups.{Aborting, Clean, CleanOver, Naming, Removing, Sweeping, Walking}
use Rattle.job_protocol.specs.JobCommits.{Commit, CommitOver, Completing, Fetching, Marking, Replacing, Reverting, Sets, is_no_magic}
use Rattle.job_protocol.specs.Records.{files_set}
use Rattle.job_protocol.specs.Setup.{dest_prefix}
use Rattle.list_walk.specs.Walks.{Deleting, Listing, Sweep}
use Rattle.magic_paths.specs.Layout.{cluster_prefix, magic_prefix}
use Rattle.pending_json.specs.declared.records.PendingSet.{PendingSet}
use Rattle.s3_types.specs.Pages.{begins}
use Rattle.s3_types.specs.declared.request.Request.{Request}
use Rattle.s3_types.specs.declared.request.UploadRef.{UploadRef}
use Rattle.std.specs.Prelude.{Bool, List, Some, length, slice_get, true, ℕ, [], ◌<◌, ◌∷◌, ◌≡◌, ◌≤◌}

-- All keys are below this prefix.
abbrev pub AllUnder : List ℕ → List (List ℕ) → Type 0
AllUnder p keys = (q : List ℕ) → IsIn q keys → begins p q ≡ true

-- All keys are below the job's magic directory.
abbrev pub AllMagic : Script → List (List ℕ) → Type 0
AllMagic w keys = AllUnder (magic_prefix w.dest.key w.job) keys

-- All paths are below the job's directory in the cluster.
abbrev pub AllCluster : Script → List (List ℕ) → Type 0
AllCluster w paths = (p : List ℕ) → IsIn p paths → begins (cluster_prefix w.job) p ≡ true

-- All uploads have keys below the destination.
abbrev pub AllBelow : Script → List UploadRef → Type 0
AllBelow w refs = (u : UploadRef) → IsIn u refs → begins (dest_prefix w) u.key ≡ true

-- All keys that a sweep has listed or has yet to delete are below this prefix.
abbrev pub SweepsUnder : List ℕ → Sweep → Type 0
SweepsUnder p (Listing keys) = AllUnder p keys
SweepsUnder p (Deleting q qs) = AllUnder p (q ∷ qs)

-- A sweep of the job's magic directory deletes only keys below it.
abbrev pub FitsSweep : Script → Sweep → Type 0
FitsSweep w t = SweepsUnder (magic_prefix w.dest.key w.job) t

-- The state of an abort or clean fits: it has begun to clean up once its first page was answered, and all that it has found is below the
-- destination, in the job's magic directory or in the job's directory in the cluster.
abbrev pub FitsClean : Script → Bool → Clean → Type 0
FitsClean w cleaned (Walking found) = AllBelow w found
FitsClean w cleaned (Aborting u us) = (cleaned ≡ true) × AllBelow w (u ∷ us)
FitsClean w cleaned (Sweeping s) = (cleaned ≡ true) × FitsSweep w s
FitsClean w cleaned Naming = cleaned ≡ true
FitsClean w cleaned (Removing p ps) = (cleaned ≡ true) × AllCluster w (p ∷ ps)
FitsClean w cleaned (CleanOver end) = Unit {0}

-- ---- the commit

-- A set that the driver has read is that of an attempt of the task, which has sent its publishing request and so learns no more.
pub record IsHeldSet (w : Script) (minimum : ℕ) (sent : Who → Bool) (drawn : Who → List Drawn) (t : ℕ) (s : PendingSet) : Type 0 where
  pub by : Who
  pub task : by.task ≡ t
  pub number : by.attempt ≤ 99
  pub has_sent : sent by ≡ true
  pub commits : List File
  pub are : AreCommits w minimum (drawn by) by commits
  pub is : s ≡ files_set w by commits (knowing (drawn by))

-- Each set that the driver has read is the set of an attempt of its task.
abbrev pub Reads : Script → ℕ → (Who → Bool) → (Who → List Drawn) → Sets → Type 0
Reads w minimum sent drawn sets = (t : ℕ) (s : PendingSet) → slice_get sets t ≡ Some s → IsHeldSet w minimum sent drawn t s

-- Each key that a replace mode has listed is below the destination; each one that it deletes is also in no magic directory.
abbrev pub FitsReplace : Script → Sweep → Type 0
FitsReplace w (Listing keys) = AllUnder (dest_prefix w) keys
FitsReplace w (Deleting q qs) = (k : List ℕ) → IsIn k (q ∷ qs) → (is_no_magic w k ≡ true) × (begins (dest_prefix w) k ≡ true)

-- The driver may send each of these requests.
abbrev pub AllDriving : Script → List Request → Type 0
AllDriving w [] = Unit {0}
AllDriving w (r ∷ rs) = IsDriving w r × AllDriving w rs

-- The state of a job's commit fits: the sets that it has read are those that were published.
abbrev pub FitsJobCommit : Script → ℕ → (Who → Bool) → (Who → List Drawn) → Commit → Type 0
FitsJobCommit w minimum sent drawn (Fetching sets n) = (length sets < w.tasks) × Reads w minimum sent drawn sets
FitsJobCommit w minimum sent drawn (Replacing sets p ps s n) = Reads w minimum sent drawn sets × AllUnder (dest_prefix w) (p ∷ ps)
    × FitsReplace w s
FitsJobCommit w minimum sent drawn (Completing sets x xs finished) = Reads w minimum sent drawn sets
FitsJobCommit w minimum sent drawn (Marking sets n) = Reads w minimum sent drawn sets
FitsJobCommit w minimum sent drawn (Reverting r rs n) = AllDriving w (r ∷ rs)
FitsJobCommit w minimum sent drawn (CommitOver end) = Unit {0}
