-- The operation of an actor of a job, whichever it is.
use Rattle.job_operations.specs.declared.act.Act.{Act}
use Rattle.job_operations.specs.declared.act.Act.TheVariants.{AbortTask, Clean, Commit, CommitTask, Setup, Sparing, Write}
use Rattle.job_operations.specs.declared.checked.Checked.{Checked}
use Rattle.cleanup.specs.Fits.{FitsDriving as clean_fits}
use Rattle.cleanup.specs.Left.{clean_left}
use Rattle.cleanup.specs.SparingFits.{FitsSparingDriving as sparing_fits, most_commits}
use Rattle.cleanup.specs.SparingLeft.{sparing_left}
use Rattle.commit_lanes.specs.CommitEnds.{FitsFew, left, rise as commit_rise}
use Rattle.conflict.specs.Fits.{FitsCheck as check_fits}
use Rattle.conflict.specs.Left.{check_left}
use Rattle.conflict.specs.Rechecks.{PlannedCheck, check_told, check_wants}
use Rattle.job_model.specs.declared.ends.CheckEnd.{CheckEnd}
use Rattle.job_model.specs.declared.ends.CheckEnd.TheVariants.{Clear}
use Rattle.job_model.specs.declared.ends.OpEnd.{OpEnd}
use Rattle.job_protocol.specs.AtWork.{Committing, clean_told, clean_wants, commit_told, commit_wants, setup_told, setup_wants, sparing_told}
use Rattle.job_protocol.specs.AtWork.{sparing_wants, task_abort_told, task_abort_wants, task_commit_told, task_commit_wants, write_told}
use Rattle.job_protocol.specs.AtWork.{write_wants}
use Rattle.job_protocol.specs.Cleanups.{clean_over}
use Rattle.job_protocol.specs.JobCommits.{commit_over}
use Rattle.job_protocol.specs.Rechecks.{check_over}
use Rattle.job_protocol.specs.Setup.{setup_over}
use Rattle.job_protocol.specs.Sparing.{sparing_over}
use Rattle.job_protocol.specs.TaskAborts.{task_abort_over}
use Rattle.job_protocol.specs.TaskCommits.{task_commit_over}
use Rattle.job_protocol.specs.Writes.{write_over}
use Rattle.job_setup.specs.Fits.{FitsDriving as setup_fits}
use Rattle.job_setup.specs.Left.{setup_left}
use Rattle.list_walk.specs.Left.{adds_key, one_if}
use Rattle.machine.specs.Turns.{FitsOutcome, retried}
use Rattle.machine.specs.declared.retrying.Retrying.{Retrying}
use Rattle.retries.specs.Retries.{Item, Retried, step}
use Rattle.s3_types.specs.Store.{Scene}
use Rattle.s3_types.specs.declared.journal.Outcome.{Outcome}
use Rattle.s3_types.specs.declared.request.Request.{Request}
use Rattle.std.specs.Option.{option_map}
use Rattle.std.specs.Prelude.{Bool, None, Option, Some, cond, false, true, ℕ, ◌*◌, ◌+◌}
use Rattle.task_operation.specs.Aborts.{abort_fits as task_abort_fits, abort_left as task_abort_left}
use Rattle.task_operation.specs.Commits.{commit_fits as task_commit_fits, commit_left as task_commit_left}
use Rattle.task_requests.specs.Writing.{write_fits, write_left}
use Rattle.job_model.specs.declared.ends.OpEnd.TheVariants as ends
use Rattle.job_operations.specs.declared.act.Act.TheVariants as acts

-- ---- a machine with its retries

-- A machine with its retries.
abbrev pub under : {M : Type 0} → ℕ → Retried M → Retrying M
under retries x = record { machine = x.operation; retries = retries; spare = x.spare; repeated = x.repeated }

-- The machine after an outcome.
abbrev pub stepped : {M : Type 0} → (M → Item → M) → Retrying M → Outcome → Retrying M
stepped after t o = under t.retries (step t.retries after (retried t) o)

-- A bound on the sends still to come: each reply and each exhausted request may take all sends of a request.
abbrev pub sendings_left : {M : Type 0} → (M → Scene → ℕ) → Retrying M → Scene → ℕ
sendings_left left t s = left t.machine s * (t.retries + 1) + t.spare

-- ---- a job's commit after its check

-- True if the check ended with Clear.
abbrev pub is_clear : Option CheckEnd → Bool
is_clear (Some Clear) = true
is_clear _ = false

-- The check, or None if it ended with Clear.
abbrev pub until_clear : Retrying PlannedCheck → Option (Retrying PlannedCheck)
until_clear t = cond (is_clear (check_over t.machine.operation)) None (Some t)

-- The request that is sent next, if there is one.
abbrev pub checked_wants : Option (Retrying PlannedCheck) → Committing → Option Request
checked_wants (Some t) c = check_wants t.machine
checked_wants None c = commit_wants c

-- The operation after the outcome of a send.
abbrev pub checked_told : Option (Retrying PlannedCheck) → Committing → Outcome → Checked
checked_told (Some t) c o = record { check = until_clear (stepped check_told t o); commit = c }
checked_told None c o = record { check = None; commit = commit_told c o }

-- An outcome that the operation may receive.
abbrev pub FitsChecked : Option (Retrying PlannedCheck) → Committing → Outcome → Type 0
FitsChecked (Some t) c o = FitsOutcome check_fits t o
FitsChecked None c o = FitsFew most_commits c o

-- How the operation ended, if it did.
abbrev pub checked_end : Option (Retrying PlannedCheck) → Committing → Option OpEnd
checked_end (Some t) c = option_map ends.Check (check_over t.machine.operation)
checked_end None c = option_map ends.Commit (commit_over c.operation)

-- A bound on the sends still to come: those of the check, and all of the commit.
abbrev pub checked_left : Option (Retrying PlannedCheck) → Committing → Scene → ℕ
checked_left (Some t) c s = sendings_left check_left t s + left most_commits c s
checked_left None c s = left most_commits c s

-- By how much a request of another actor may raise the bound.
abbrev pub checked_rise : Option (Retrying PlannedCheck) → Committing → Request → ℕ
checked_rise (Some t) c r = 1 * (t.retries + 1) + commit_rise most_commits c * one_if (adds_key r)
checked_rise None c r = commit_rise most_commits c * one_if (adds_key r)

-- ---- any operation

-- The request that the operation sends next, if there is one.
abbrev pub wants_of : Act → Option Request
wants_of (Setup t) = setup_wants t.machine
wants_of (Write t) = write_wants t.machine
wants_of (CommitTask t) = task_commit_wants t.machine
wants_of (AbortTask t) = task_abort_wants t.machine
wants_of (Commit c) = commit_wants c
wants_of (Clean t) = clean_wants t.machine
wants_of (Sparing t) = sparing_wants t.machine
wants_of (acts.Checked x) = checked_wants x.check x.commit

-- The operation after the outcome of a send.
abbrev pub tells_of : Act → Outcome → Act
tells_of (Setup t) o = Setup (stepped setup_told t o)
tells_of (Write t) o = Write (stepped write_told t o)
tells_of (CommitTask t) o = CommitTask (stepped task_commit_told t o)
tells_of (AbortTask t) o = AbortTask (stepped task_abort_told t o)
tells_of (Commit c) o = Commit (commit_told c o)
tells_of (Clean t) o = Clean (stepped clean_told t o)
tells_of (Sparing t) o = Sparing (stepped sparing_told t o)
tells_of (acts.Checked x) o = acts.Checked (checked_told x.check x.commit o)

-- An outcome that an actor may receive for its operation.
abbrev pub FitsAct : Act → Outcome → Type 0
FitsAct (Setup t) o = FitsOutcome setup_fits t o
FitsAct (Write t) o = FitsOutcome write_fits t o
FitsAct (CommitTask t) o = FitsOutcome task_commit_fits t o
FitsAct (AbortTask t) o = FitsOutcome task_abort_fits t o
FitsAct (Commit c) o = FitsFew most_commits c o
FitsAct (Clean t) o = FitsOutcome clean_fits t o
FitsAct (Sparing t) o = FitsOutcome sparing_fits t o
FitsAct (acts.Checked x) o = FitsChecked x.check x.commit o

-- How the operation ended, if it did.
abbrev pub end_of : Act → Option OpEnd
end_of (Setup t) = option_map ends.Setup (setup_over t.machine.operation)
end_of (Write t) = option_map ends.Task (write_over t.machine.operation)
end_of (CommitTask t) = option_map ends.Task (task_commit_over t.machine.operation)
end_of (AbortTask t) = option_map ends.Task (task_abort_over t.machine.operation)
end_of (Commit c) = option_map ends.Commit (commit_over c.operation)
end_of (Clean t) = option_map ends.Clean (clean_over t.machine.operation)
end_of (Sparing t) = option_map ends.Clean (sparing_over t.machine.operation)
end_of (acts.Checked x) = checked_end x.check x.commit

-- A bound on the sends that the operation has left while nobody else sends.
abbrev pub left_of : Act → Scene → ℕ
left_of (Setup t) s = sendings_left setup_left t s
left_of (Write t) s = sendings_left write_left t s
left_of (CommitTask t) s = sendings_left task_commit_left t s
left_of (AbortTask t) s = sendings_left task_abort_left t s
left_of (Commit c) s = left most_commits c s
left_of (Clean t) s = sendings_left clean_left t s
left_of (Sparing t) s = sendings_left sparing_left t s
left_of (acts.Checked x) s = checked_left x.check x.commit s

-- By how much a request of another actor may raise the bound.
abbrev pub rise_of : Act → Request → ℕ
rise_of (Setup t) r = 2 * (t.retries + 1)
rise_of (Write t) r = 0
rise_of (CommitTask t) r = 1 * (t.retries + 1)
rise_of (AbortTask t) r = 1 * (t.retries + 1)
rise_of (Commit c) r = commit_rise most_commits c * one_if (adds_key r)
rise_of (Clean t) r = 3 * (t.retries + 1)
rise_of (Sparing t) r = (3 + most_commits) * (t.retries + 1)
rise_of (acts.Checked x) r = checked_rise x.check x.commit r
