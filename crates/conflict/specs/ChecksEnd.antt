-- Laws of checks and deletions, and of the operations that use them.
use Rattle.conflict.specs.Checks.{check_asks, found_below, left_after}
use Rattle.conflict.specs.Deletions.{Deletion, deleted, deletion_asks, deletion_hears, spared}
use Rattle.conflict.specs.Fits.{FitsCheck}
use Rattle.conflict.specs.Left.{check_left}
use Rattle.conflict.specs.Rechecks.{check_told, check_wants}
use Rattle.job_model.specs.Attempts.{Who}
use Rattle.job_model.specs.JobScript.{Script}
use Rattle.job_model.specs.Known.{Known}
use Rattle.job_protocol.specs.Conflicts.{partitions}
use Rattle.job_protocol.specs.JobCommits.{Commit, Replacing, Sets, commit_asks, commit_hears, replaced, replacing}
use Rattle.job_protocol.specs.Measures.{FallsAmong}
use Rattle.job_protocol.specs.Outputs.{Picks, ordered, wanted_paths}
use Rattle.job_protocol.specs.TaskCommits.{Checking, TaskCommit, TaskCommitOver, checking, task_commit_asks, task_commit_hears}
use Rattle.list_walk.specs.Walks.{Sweep, sweep_start}
use Rattle.s3_types.specs.declared.reply.Reply.{Reply}
use Rattle.s3_types.specs.declared.request.Mode.TheVariants.{Replace}
use Rattle.std.specs.Prelude.{Bool, List, None, Option, Some, ℕ, [], ◌∷◌, ◌≡◌}
use Rattle.job_model.specs.declared.ends.TaskEnd.TheVariants as ends

-- ---- partitions

-- The partitions of paths do not change if the paths are put in order.
pub record PartitionsTell : Type 0 where
  pub ordered : (paths : List (List ℕ)) → partitions (ordered paths) ≡ partitions paths

-- ---- a task commit that looks below partitions

-- The commit that found a key below a partition, or has these partitions left to check.
abbrev pub commit_after_check : Script → Who → Option (List ℕ) → List (List ℕ) → TaskCommit
commit_after_check w a (Some d) ds = TaskCommitOver (ends.Conflict d)
commit_after_check w a None ds = checking w a ds

-- A task commit checks its partitions as this check does.
pub record ChecksTell : Type 0 where
  pub asks : (w : Script) (a : Who) (k : Known) (d : List ℕ) (ds : List (List ℕ))
      → task_commit_asks w a k (Checking d ds) ≡ check_asks w.dest (d ∷ ds)
  pub goes : (w : Script) (minimum : ℕ) (a : Who) (d : List ℕ) (ds : List (List ℕ)) (r : Reply) (repeated : Bool)
      → task_commit_hears w minimum a (Checking d ds) r repeated ≡ commit_after_check w a (found_below (d ∷ ds) r) (left_after (d ∷ ds) r)

-- ---- a job commit that deletes for a replace mode

-- The commit with these sets that still has to delete below these prefixes.
abbrev pub deleting_below : Script → Sets → Sweep → List (List ℕ) → Commit
deleting_below w sets sweep [] = replacing w sets []
deleting_below w sets sweep (p ∷ ps) = Replacing sets p ps sweep 0

-- The commit whose deletion has come so far.
abbrev pub commit_deleting : Script → Sets → Deletion → Commit
commit_deleting w sets d = deleting_below w sets d.sweep d.prefixes

-- The deletion at a script's destination that has come so far.
abbrev pub deletion_of : Script → List (List ℕ) → Sweep → Deletion
deletion_of w prefixes sweep = record { prefixes = prefixes; sweep = sweep; spared = spared w.dest }

-- A job commit deletes for a replace mode as this deletion does.
pub record DeletionsTell : Type 0 where
  -- It deletes below the prefixes that the mode does not keep.
  pub prefixes : (w : Script) (picks : Picks) → w.mode ≡ Replace
      → replaced w.committer w.mode w picks ≡ deleted w.committer w.dest (partitions (wanted_paths w picks))
  pub starts : (w : Script) (sets : Sets) (prefixes : List (List ℕ))
      → replacing w sets prefixes ≡ commit_deleting w sets (deletion_of w prefixes sweep_start)
  pub asks : (w : Script) (sets : Sets) (p : List ℕ) (ps : List (List ℕ)) (sweep : Sweep) (missed : ℕ)
      → commit_asks w (Replacing sets p ps sweep missed) ≡ deletion_asks w.dest.bucket (deletion_of w (p ∷ ps) sweep)
  pub goes : (w : Script) (sets : Sets) (p : List ℕ) (ps : List (List ℕ)) (sweep : Sweep) (missed : ℕ) (r : Reply)
      → commit_hears w (Replacing sets p ps sweep missed) r ≡ commit_deleting w sets (deletion_hears (deletion_of w (p ∷ ps) sweep) r)

-- ---- a check before a commit among other actors

-- A request of another actor raises the bound of a check by at most 1.
abbrev pub ChecksFall : Type 0
ChecksFall = FallsAmong check_wants check_told FitsCheck check_left 1
