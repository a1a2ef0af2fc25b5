-- The statuses of runs, and what a restart changes.
use Rattle.job_examples.specs.Jobs.{attempt, done_setup, done_task, job, worker}
use Rattle.job_model.specs.JobScript.{Script}
use Rattle.job_model.specs.declared.ends.EventEnd.{EventEnd}
use Rattle.job_model.specs.declared.ends.EventEnd.TheVariants.{Done, Ended, Refused}
use Rattle.job_model.specs.declared.events.Event.{Event}
use Rattle.job_model.specs.declared.events.Event.TheVariants.{Do, Kill, Recover, Restart, Start}
use Rattle.job_model.specs.declared.events.Op.TheVariants.{Abort, Commit, Setup, Write}
use Rattle.job_spec.specs.States.{commit_event, dead, idle, missing, past, refusal, verdict}
use Rattle.s3_types.specs.declared.request.Actor.TheVariants.{Driver}
use Rattle.s3_types.specs.declared.request.Committer.TheVariants.{Magic}
use Rattle.s3_types.specs.declared.request.Mode.TheVariants.{Append}
use Rattle.std.specs.Prelude.{List, None, Some, codes, [], ◌∷◌, ◌≡◌}
use Rattle.job_model.specs.declared.ends.SetupEnd.TheVariants as setups
use Rattle.job_model.specs.declared.ends.CommitEnd.TheVariants as commits
use Rattle.job_model.specs.declared.ends.OpEnd.TheVariants as ends
use Rattle.job_model.specs.declared.ends.EventFault.TheVariants as faults
use Rattle.job_model.specs.declared.states.ActorStage.TheVariants as stage

-- A job of one attempt with one file, and these events.
abbrev pub script : List Event → Script
script events = job Magic Append 1 3 1 (attempt 0 0 ((codes "part-00000", codes "hello") ∷ []) ∷ []) events

-- A job with a set-up that runs out of retries, and a second one whose driver is killed.
abbrev pub killed_setup : Script
killed_setup = script (Do Driver Setup ∷ Start Driver Setup ∷ Kill Driver ∷ [])

-- The ends of these events.
abbrev pub killed_setup_ends : List EventEnd
killed_setup_ends = Ended (ends.Setup setups.StoreFault) ∷ Done ∷ Done ∷ []

-- A job with a set-up, a write, a task's commit and a job's commit.
abbrev pub whole : Script
whole = script (Do Driver Setup ∷ Do worker Write ∷ Do worker Commit ∷ Do Driver Commit ∷ [])

-- The ends of its events, the last of which is the end of its commit.
abbrev pub whole_ends : EventEnd → List EventEnd
whole_ends end = done_setup ∷ done_task ∷ done_task ∷ end ∷ []

-- A job with a set-up that runs out of retries, so that its commit is refused.
abbrev pub refused_commit : Script
refused_commit = script (Do Driver Setup ∷ Do Driver Commit ∷ [])

-- A job whose driver is killed in its commit and restarted.
abbrev pub killed_commit : Script
killed_commit = script (Do Driver Setup ∷ Do worker Write ∷ Do worker Commit ∷ Start Driver Commit ∷ Kill Driver ∷ Restart ∷ Restart ∷
    Recover worker ∷ Do Driver Commit ∷ Do Driver Abort ∷ [])

-- The ends of its events up to the restart.
abbrev pub killed_commit_ends : List EventEnd
killed_commit_ends = done_setup ∷ done_task ∷ done_task ∷ Done ∷ Done ∷ Done ∷ []

-- A job whose driver is killed after a task's commit and restarted.
abbrev pub forgotten : Script
forgotten = script (Do Driver Setup ∷ Do worker Write ∷ Do worker Commit ∷ Kill Driver ∷ Restart ∷ Do Driver Commit ∷ [])

-- The ends of its events up to the restart.
abbrev pub forgotten_ends : List EventEnd
forgotten_ends = done_setup ∷ done_task ∷ done_task ∷ Done ∷ Done ∷ []

-- The status of each of these runs.
pub record DecidesSo : Type 0 where
  -- Nothing was begun.
  pub nothing : verdict whole [] ≡ 1
  -- The last set-up that was begun decides, even if it has not ended.
  pub worn_setup : verdict killed_setup (Ended (ends.Setup setups.StoreFault) ∷ []) ≡ 8
  pub killed : verdict killed_setup killed_setup_ends ≡ 1
  -- If a commit was begun, it decides.
  pub committed : verdict whole (whole_ends (Ended (ends.Commit commits.Committed))) ≡ 0
  pub missing : verdict whole (whole_ends (Ended (ends.Commit (commits.Missing 0)))) ≡ 1
  pub no_memory : verdict whole (whole_ends (Ended (ends.Commit commits.NoMemory))) ≡ 9
  pub not_made : verdict whole (whole_ends (Ended ends.NoMemory)) ≡ 9
  -- A commit that was not reached, or was refused, does not decide.
  pub unreached : verdict whole (Ended (ends.Setup setups.StoreFault) ∷ []) ≡ 8
  pub refused : verdict refused_commit (Ended (ends.Setup setups.StoreFault) ∷ Refused faults.NotSet ∷ []) ≡ 8
  -- A commit whose driver was killed decides, even after a restart.
  pub killed_commit : verdict killed_commit killed_commit_ends ≡ 1

-- What a restart changes, and what is refused after it.
pub record RestartsSo : Type 0 where
  -- The dead driver was committing. The restart makes it idle and its commit failed, and gives the next number.
  pub before : (past killed_commit (done_setup ∷ done_task ∷ done_task ∷ Done ∷ Done ∷ [])).state Driver ≡ dead stage.Committing
  pub after : (past killed_commit killed_commit_ends).state Driver ≡ idle stage.Failed
  pub number : (past killed_commit killed_commit_ends).attempt ≡ 2
  -- A second restart, a recovery and a second commit are refused; an abort is not.
  pub again : refusal (past killed_commit killed_commit_ends).state Restart ≡ Some faults.NotDead
  pub recovery : refusal (past killed_commit killed_commit_ends).state (Recover worker) ≡ Some faults.NoRecovery
  pub commit : refusal (past killed_commit killed_commit_ends).state (Do Driver Commit) ≡ Some faults.WrongState
  pub abort : refusal (past killed_commit killed_commit_ends).state (Do Driver Abort) ≡ None
  -- The first commit stays the job's commit.
  pub begun : commit_event killed_commit killed_commit_ends ≡ Some 4
  -- A report from before a restart does not count; the stages of the driver and of the attempt stay.
  pub reported : missing forgotten (past forgotten (done_setup ∷ done_task ∷ done_task ∷ Done ∷ [])).reported ≡ None
  pub forgot : missing forgotten (past forgotten forgotten_ends).reported ≡ Some 0
  pub stays : (past forgotten forgotten_ends).state Driver ≡ idle stage.Set
  pub goes_on : (past forgotten forgotten_ends).state worker ≡ idle stage.Committed
