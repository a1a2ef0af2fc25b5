-- Definitions beside those of `Begins` that no public contract cites.
use Rattle.commit_lanes.specs.CommitEnds.{start}
use Rattle.commit_lanes.specs.Fitting.{least_missing}
use Rattle.conflict.specs.Rechecks.{PlannedCheck, check_begun}
use Rattle.job_actor.specs.Plans.{IsPlanOf}
use Rattle.job_actor.specs.Reports.{IsReport}
use Rattle.job_actor.specs.declared.reported.Reported.{Reported}
use Rattle.job_model.specs.JobScript.{Script}
use Rattle.job_model.specs.Jobs.{Job, Task}
use Rattle.job_model.specs.Known.{Known}
use Rattle.job_model.specs.declared.ends.CommitEnd.{CommitEnd}
use Rattle.job_model.specs.declared.events.Op.{Op}
use Rattle.job_operations.specs.Acts.{under, until_clear}
use Rattle.job_operations.specs.Plans.{IsOf, running_of}
use Rattle.job_operations.specs.declared.act.Act.{Act}
use Rattle.job_operations.specs.declared.act.Act.TheVariants.{AbortTask, Checked, Clean, Commit, CommitTask, Setup, Sparing, Write}
use Rattle.job_protocol.specs.AtWork.{job_of, read_script, task_script, who_of}
use Rattle.job_protocol.specs.Cleanups.{clean_start}
use Rattle.job_protocol.specs.JobCommits.{commit_start}
use Rattle.job_protocol.specs.Operations.{Reports, Setting, start_of}
use Rattle.job_protocol.specs.Setup.{setup_start}
use Rattle.job_protocol.specs.Sparing.{sparing_start}
use Rattle.job_protocol.specs.TaskAborts.{task_abort_start}
use Rattle.job_protocol.specs.TaskCommits.{task_commit_start}
use Rattle.job_protocol.specs.Writes.{write_start}
use Rattle.machine.specs.declared.retrying.Retrying.{Retrying}
use Rattle.retries.specs.Retries.{fresh}
use Rattle.s3_types.specs.declared.request.Actor.{Actor}
use Rattle.s3_types.specs.declared.request.Mode.{Mode}
use Rattle.s3_types.specs.declared.request.Mode.TheVariants.{Fail}
use Rattle.std.specs.Prelude.{Bool, List, None, Option, Some, false, true, ℕ, [], ◌≡◌}
use Rattle.job_model.specs.declared.events.Op.TheVariants as ops
use Rattle.job_model.specs.declared.ends.CommitEnd.TheVariants as ends
use Rattle.job_actor.specs.declared.plan.Plan.TheVariants as plans

-- A machine that has sent nothing yet.
abbrev pub unsent : {M : Type 0} → ℕ → M → Retrying M
unsent retries m = under retries (fresh retries m)

-- A set-up that has sent nothing yet.
abbrev pub setup_of : Job → Act
setup_of j = Setup (unsent j.retries (record { plan = j; operation = setup_start }))

-- A write that has sent nothing yet.
abbrev pub write_of : Task → Act
write_of t = Write (unsent t.job.retries (record { plan = t; operation = write_start (task_script t) (who_of t) }))

-- A task commit that has sent nothing yet.
abbrev pub commit_task_of : Task → Act
commit_task_of t = CommitTask (unsent t.job.retries (record { plan = t; operation = task_commit_start (task_script t) (who_of t) }))

-- A task abort that has sent nothing yet.
abbrev pub abort_task_of : Task → Act
abort_task_of t = AbortTask (unsent t.job.retries (record { plan = t; operation = task_abort_start (task_script t) t.known }))

-- A job's commit that has sent nothing yet; `reported` holds the tasks that reported a successful commit.
abbrev pub commit_of : Job → List ℕ → Act
commit_of j reported = Commit (start j (least_missing j.tasks reported))

-- A check of these partitions before a job's commit, which has sent nothing yet.
abbrev pub check_of : Job → List (List ℕ) → Retrying PlannedCheck
check_of j dirs = unsent j.retries (check_begun (record { job = j; partitions = dirs }))

-- A job's commit after its check, which has sent nothing yet.
abbrev pub checked_of : Job → List ℕ → List (List ℕ) → Act
checked_of j reported dirs = Checked (record { check = until_clear (check_of j dirs); commit = start j (least_missing j.tasks reported) })

-- True if the commit ended because a task is missing.
abbrev pub is_missing : Option CommitEnd → Bool
is_missing (Some (ends.Missing t)) = true
is_missing _ = false

-- The driver's commit. It first runs its check if partitions are reported, the mode is fail, and no task is missing.
abbrev pub commit_by : Job → List ℕ → Option (List (List ℕ)) → Mode → Option ℕ → Act
commit_by j reported (Some dirs) Fail None = checked_of j reported dirs
commit_by j reported dirs mode missing = commit_of j reported

abbrev pub driver_commit : Job → Reported → Act
driver_commit j x = commit_by j x.tasks x.partitions j.mode (least_missing j.tasks x.tasks)

-- An abort or clean that has sent nothing yet.
abbrev pub clean_of : Job → Act
clean_of j = Clean (unsent j.retries (record { plan = j; operation = clean_start }))

-- An abort or clean that spares what is not the job's own, and has sent nothing yet.
abbrev pub sparing_of : Job → Act
sparing_of j = Sparing (unsent j.retries (record { plan = j; operation = sparing_start j.committer }))

-- The driver's abort or clean, which spares what is not the job's own if partitions are reported.
abbrev pub clean_by : Job → Option (List (List ℕ)) → Act
clean_by j (Some dirs) = sparing_of j
clean_by j None = clean_of j

-- This is the actor's operation as the script begins it, if the actor knows `k` and the driver has these reports.
pub record Begun (g : Setting) (a : Actor) (op : Op) (reports : Reports) (k : Known) (act : Act) : Type 0 where
  pub is_of : IsOf g a act
  pub starts : start_of g a op reports k ≡ Some (running_of k act).operation
  pub known : (running_of k act).known ≡ k

-- An attempt with this plan begins its operation so, for any script that gives the plan.
abbrev pub BeginsTask : Op → Task → Act → Type 0
BeginsTask op t act = (g : Setting) (a : Actor) (r : Reports) (k : Known) → IsPlanOf g a k (plans.Task t) → Begun g a op r k act

-- The driver with this plan of a job begins its set-up so.
abbrev pub BeginsSetup : Job → Act → Type 0
BeginsSetup j act = (g : Setting) (a : Actor) (r : Reports) (k : Known) → IsPlanOf g a k (plans.Job j) → Begun g a ops.Setup r k act

-- The driver with this plan of a job and these reports begins another operation so.
abbrev pub BeginsJob : Op → Job → Reported → Act → Type 0
BeginsJob op j x act = (g : Setting) (a : Actor) (r : Reports) (k : Known) → IsReport g a op x r → IsPlanOf g a k (plans.Job j)
    → Begun g a op r k act

-- Before it has read a set, a job's commit begins as the script says.
abbrev pub StartsSo : Script → Option ℕ → Type 0
StartsSo w missing = commit_start (read_script (job_of w) []) missing ≡ commit_start w missing

-- The driver with this plan of a job and these reports begins its commit so.
abbrev pub BeginsCommit : Job → Reported → Act → Type 0
BeginsCommit j x act = (g : Setting) (a : Actor) (r : Reports) (k : Known) → IsReport g a ops.Commit x r → IsPlanOf g a k (plans.Job j)
    → StartsSo g.script r.missing → Begun g a ops.Commit r k act

-- The driver with this plan of a job and these reports begins its clean and its abort so.
pub record BeginsClean (j : Job) (x : Reported) (act : Act) : Type 0 where
  pub clean : BeginsJob ops.Clean j x act
  pub abort : BeginsJob ops.Abort j x act
