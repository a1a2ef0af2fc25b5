-- A task's commit never ends Kept; and a run may go on.
use Rattle.job_invariant.proofs.Going.{step_so}
use Rattle.job_model.specs.Attempts.{Who}
use Rattle.job_model.specs.Files.{File}
use Rattle.job_model.specs.JobScript.{Script}
use Rattle.job_model.specs.declared.ends.EventEnd.TheVariants.{Done}
use Rattle.job_model.specs.declared.ends.TaskEnd.{TaskEnd}
use Rattle.job_protocol.specs.TaskCommits.{TaskCommit, TaskCommitOver, checking, looked, reading, storing, task_commit_after}
use Rattle.job_protocol.specs.TaskCommits.{task_commit_hears, task_commit_over, task_commit_start, task_commit_start_by, to_check, uploaded}
use Rattle.job_protocol.specs.Uploading.{Uploaded}
use Rattle.script_steps.specs.Running.{Ahead}
use Rattle.script_steps.specs.Transitions.{Play}
use Rattle.list_walk.specs.Walks.{Walked}
use Rattle.retries.specs.Retries.{Retried, step}
use Rattle.s3_types.specs.declared.journal.Outcome.{Outcome}
use Rattle.s3_types.specs.declared.reply.Reply.{Reply}
use Rattle.s3_types.specs.declared.request.Committer.TheVariants.{Magic}
use Rattle.std.proofs.Common.{Bool, List, Option, Some, arith, false, refl, true, ℕ, [], ◌++◌, ◌∷◌, ◌≡◌}
use Rattle.job_model.specs.declared.ends.TaskEnd.TheVariants as tasks

-- ---- a task's commit never ends Kept

abbrev pub is_kept : Option TaskEnd → Bool
is_kept (Some tasks.Kept) = true
is_kept _ = false

abbrev pub FreeCommit : TaskCommit → Type 0
FreeCommit t = is_kept (task_commit_over t) ≡ false

module _ (w : Script) (a : Who) where
  free_reading : (cs fs : List File) → FreeCommit (reading cs fs)
  free_reading cs fs = grind arith

  free_looked : (x : Walked (List ℕ)) → FreeCommit (looked w a x)
  free_looked x = grind arith

  free_storing : (fs : List File) → FreeCommit (storing fs)
  free_storing fs = grind arith

  free_checking : (ds : List (List ℕ)) → FreeCommit (checking w a ds)
  free_checking ds = grind arith

  free_uploaded : (f : File) (fs : List File) (u : Uploaded) → FreeCommit (uploaded w f fs u)
  free_uploaded f fs u = grind arith

  free_heard : (minimum : ℕ) (t : TaskCommit) (x : Reply) (repeated : Bool) → FreeCommit t
      → FreeCommit (task_commit_hears w minimum a t x repeated)
  free_heard minimum t x repeated h = grind (arith, free_looked, free_reading, free_checking, free_uploaded)

  pub commit_goes : (minimum retries : ℕ) (t : Retried TaskCommit) (o : Outcome) → FreeCommit t.operation
      → FreeCommit (step retries (task_commit_after w minimum a) t o).operation
  commit_goes minimum retries t o h = step_so retries (task_commit_after w minimum a) t o FreeCommit
      (λ x is. free_heard minimum t.operation x t.repeated h) (λ none. h) (λ none. refl)

  pub commit_begins : FreeCommit (task_commit_start w a)
  commit_begins = elim w.committer as (λ c. FreeCommit (task_commit_start_by c w a)) [ Magic ↦ refl | _ ↦ free_checking (to_check w a) ]

-- A task's commit that is over has this end.
pub over_is : (t : TaskCommit) (e : TaskEnd) → task_commit_over t ≡ Some e → t ≡ TaskCommitOver e
over_is t e h = grind arith

-- ---- how a run may go on

-- The run may go on with this end.
pub goes_on : (x : Play) → Ahead x (x.ends ++ Done ∷ [])
goes_on x = record { rest = Done ∷ []; is = refl; going = λ ev e. (Done, [], refl, refl) }
