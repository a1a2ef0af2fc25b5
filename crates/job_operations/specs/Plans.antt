-- The plans of the operations of a job's actors, which the script gives.
use Rattle.job_operations.specs.declared.act.Act.{Act}
use Rattle.job_operations.specs.declared.act.Act.TheVariants.{AbortTask, Checked, Clean, Commit, CommitTask, Setup, Sparing, Write}
use Rattle.conflict.specs.Rechecks.{PlannedCheck}
use Rattle.job_actor.specs.declared.plan.Plan.{Plan}
use Rattle.job_commit.specs.Holds.{picks_from}
use Rattle.job_model.specs.JobScript.{Script}
use Rattle.job_model.specs.Known.{Known}
use Rattle.job_model.specs.declared.ends.Pick.{Pick}
use Rattle.job_protocol.specs.AtWork.{Attempting, Committing, Driving, job_of, read_script, sets_after, sets_in, task_abort_wants}
use Rattle.job_protocol.specs.AtWork.{task_commit_wants, task_of, task_script, who_of, write_wants}
use Rattle.job_protocol.specs.JobCommits.{commit_asks, commit_start, commit_tells}
use Rattle.job_protocol.specs.Operations.{Operation, Running, Setting, TheCheck, TheClean, TheCommit, TheSetup, TheSparing, TheTaskAbort}
use Rattle.job_protocol.specs.Operations.{TheTaskCommit, TheWrite, learn_of, who}
use Rattle.machine.specs.declared.retrying.Retrying.{Retrying}
use Rattle.retries.specs.Retries.{Retried}
use Rattle.s3_types.specs.declared.journal.Outcome.{Outcome}
use Rattle.s3_types.specs.declared.journal.Outcome.TheVariants.{RequestLost}
use Rattle.s3_types.specs.declared.request.Actor.{Actor}
use Rattle.s3_types.specs.declared.request.Actor.TheVariants.{Attempt, Driver}
use Rattle.s3_types.specs.declared.request.Request.{Request}
use Rattle.std.specs.Prelude.{Bool, List, None, Option, Some, cond, nat_lt, ℕ, ◌≡◌, ◌≤◌}
use Rattle.job_actor.specs.declared.plan.Plan.TheVariants as plans

-- The plan of an operation, with what an attempt knows at this point of the operation.
abbrev pub plan_of : Act → Plan
plan_of (Setup t) = plans.Job t.machine.plan
plan_of (Write t) = plans.Task t.machine.plan
plan_of (CommitTask t) = plans.Task t.machine.plan
plan_of (AbortTask t) = plans.Task t.machine.plan
plan_of (Commit c) = plans.Job c.plan
plan_of (Clean t) = plans.Job t.machine.plan
plan_of (Sparing t) = plans.Job t.machine.plan
plan_of (Checked x) = plans.Job x.commit.plan

-- The attempts whose sets a job's commit has read.
abbrev pub picks_of : Act → Option (List Pick)
picks_of (Commit c) = Some (picks_from 0 c.picked)
picks_of (Checked x) = Some (picks_from 0 x.commit.picked)
picks_of _ = None

-- ---- the operation in the table of operations

-- An operation with the count of its machine's sends.
abbrev pub counted : {O : Type 0} → ℕ → Bool → O → Retried O
counted spare repeated o = record { operation = o; spare = spare; repeated = repeated }

-- What an attempt knows. Its plan learns from a request that is answered or exhausts its retries. An unanswered send teaches at once, for
-- example that the publishing request was sent.
abbrev pub known_now : {O : Type 0} → (Attempting O → Option Request) → Retrying (Attempting O) → Known
known_now wants t = cond (nat_lt t.spare t.retries) (learn_of (task_script t.machine.plan) (who_of t.machine.plan) t.machine.plan.known
    (wants t.machine) RequestLost) t.machine.plan.known

-- The operation of a job's commit after its check: the check, while there is one.
abbrev pub checked_at : Option (Retrying PlannedCheck) → Committing → Operation
checked_at (Some t) c = TheCheck (counted t.spare t.repeated t.machine.operation)
checked_at None c = TheCommit c.operation

-- The operation with what its actor knows. The driver's knowledge does not matter, and is `k`.
abbrev pub running_of : Known → Act → Running
running_of k (Setup t) = record { operation = TheSetup (counted t.spare t.repeated t.machine.operation); known = k }
running_of k (Write t) = record { operation = TheWrite (counted t.spare t.repeated t.machine.operation); known = known_now write_wants t }
running_of k (CommitTask t) = record {
  operation = TheTaskCommit (counted t.spare t.repeated t.machine.operation);
  known = known_now
      task_commit_wants t;
}
running_of k (AbortTask t) = record {
  operation = TheTaskAbort (counted t.spare t.repeated t.machine.operation);
  known = known_now
      task_abort_wants t;
}
running_of k (Commit c) = record { operation = TheCommit c.operation; known = k }
running_of k (Clean t) = record { operation = TheClean (counted t.spare t.repeated t.machine.operation); known = k }
running_of k (Sparing t) = record { operation = TheSparing (counted t.spare t.repeated t.machine.operation); known = k }
running_of k (Checked x) = record { operation = checked_at x.check x.commit; known = k }

-- ---- the plans that a script gives

-- The actor is an attempt.
abbrev pub IsAttempt : Actor → Type 0
IsAttempt a = (task : ℕ) × (attempt : ℕ) × (a ≡ Attempt task attempt)

-- The operation is the driver's, with the plan of the job.
pub record OfDriver {O : Type 0} (w : Script) (a : Actor) (t : Retrying (Driving O)) : Type 0 where
  pub actor : a ≡ Driver
  pub plan : t.machine.plan ≡ job_of w
  pub retries : t.retries ≡ w.retries

-- The operation is an attempt's, with its own plan.
pub record OfAttempt {O : Type 0} (g : Setting) (a : Actor) (t : Retrying (Attempting O)) : Type 0 where
  pub actor : IsAttempt a
  pub plan : t.machine.plan ≡ task_of g.script g.minimum (who a) t.machine.plan.known
  pub retries : t.retries ≡ g.script.retries
  pub spare : t.spare ≤ t.retries

-- The job's commit is the driver's, with the plan of the job.
abbrev pub OfCommit : Script → Actor → Committing → Type 0
OfCommit w a c = (a ≡ Driver) × (c.plan ≡ job_of w)

-- The check before the job's commit is the driver's, with the plan of the job and with that commit as it begins.
pub record OfCheck (w : Script) (a : Actor) (t : Retrying PlannedCheck) (c : Committing) : Type 0 where
  pub actor : a ≡ Driver
  pub plan : t.machine.plan.job ≡ job_of w
  pub retries : t.retries ≡ w.retries
  pub commit : c.plan ≡ job_of w
  pub begins : c.operation ≡ commit_start w None

-- The job's commit after its check is the driver's, with the plan of the job.
abbrev pub OfChecked : Script → Actor → Option (Retrying PlannedCheck) → Committing → Type 0
OfChecked w a (Some t) c = OfCheck w a t c
OfChecked w a None c = OfCommit w a c

-- The operation has the plan that the script gives this actor.
abbrev pub IsOf : Setting → Actor → Act → Type 0
IsOf g a (Setup t) = OfDriver g.script a t
IsOf g a (Write t) = OfAttempt g a t
IsOf g a (CommitTask t) = OfAttempt g a t
IsOf g a (AbortTask t) = OfAttempt g a t
IsOf g a (Commit c) = OfCommit g.script a c
IsOf g a (Clean t) = OfDriver g.script a t
IsOf g a (Sparing t) = OfDriver g.script a t
IsOf g a (Checked x) = OfChecked g.script a x.check x.commit

-- By the sets that it read, a job's commit sends what the script says.
abbrev pub CommitAsksSo : Script → Committing → Type 0
CommitAsksSo w c = commit_asks (read_script (job_of w) (sets_in c.operation)) c.operation ≡ commit_asks w c.operation

-- The same for a commit after its check, once the check is clear.
abbrev pub CheckedAsksSo : Script → Option (Retrying PlannedCheck) → Committing → Type 0
CheckedAsksSo w (Some t) c = Unit {0}
CheckedAsksSo w None c = CommitAsksSo w c

abbrev pub AsksSo : Script → Act → Type 0
AsksSo w (Commit c) = CommitAsksSo w c
AsksSo w (Checked x) = CheckedAsksSo w x.check x.commit
AsksSo w _ = Unit {0}

-- By the sets that it read, a job's commit goes on as the script says.
abbrev pub CommitGoesSo : Script → Committing → Outcome → Type 0
CommitGoesSo w c o = commit_tells (read_script (job_of w) (sets_after c.operation o)) c.operation o ≡ commit_tells w c.operation o

-- The same for a commit after its check, once the check is clear.
abbrev pub CheckedGoesSo : Script → Option (Retrying PlannedCheck) → Committing → Outcome → Type 0
CheckedGoesSo w (Some t) c o = Unit {0}
CheckedGoesSo w None c o = CommitGoesSo w c o

abbrev pub GoesSo : Script → Act → Outcome → Type 0
GoesSo w (Commit c) o = CommitGoesSo w c o
GoesSo w (Checked x) o = CheckedGoesSo w x.check x.commit o
GoesSo w _ o = Unit {0}
