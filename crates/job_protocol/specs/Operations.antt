-- All operations of a job's actors, in one table.
use Rattle.job_model.specs.Attempts.{Who}
use Rattle.job_model.specs.JobScript.{Script}
use Rattle.job_model.specs.Known.{Known}
use Rattle.job_model.specs.declared.ends.CheckEnd.TheVariants.{Clear}
use Rattle.job_model.specs.declared.ends.OpEnd.{OpEnd}
use Rattle.job_model.specs.declared.events.Op.{Op}
use Rattle.job_protocol.specs.Cleanups.{Clean, clean_after, clean_asks, clean_over, clean_start}
use Rattle.job_protocol.specs.JobCommits.{Commit, commit_asks, commit_over, commit_start, commit_tells}
use Rattle.job_protocol.specs.Knowledge.{learn}
use Rattle.job_protocol.specs.Rechecks.{Check, CheckOver, check_after, check_asks, check_over, check_start}
use Rattle.job_protocol.specs.Setup.{Setup, setup_after, setup_asks, setup_over, setup_start}
use Rattle.job_protocol.specs.Sparing.{Sparing, sparing_after, sparing_asks, sparing_over, sparing_start}
use Rattle.job_protocol.specs.TaskAborts.{TaskAbort, task_abort_after, task_abort_asks, task_abort_over, task_abort_start}
use Rattle.job_protocol.specs.TaskCommits.{TaskCommit, task_commit_after, task_commit_asks, task_commit_over, task_commit_start}
use Rattle.job_protocol.specs.Writes.{Write, write_after, write_asks, write_over, write_start}
use Rattle.retries.specs.Retries.{Retried, fresh, step}
use Rattle.s3_types.specs.declared.journal.Outcome.{Outcome}
use Rattle.s3_types.specs.declared.request.Actor.{Actor}
use Rattle.s3_types.specs.declared.request.Actor.TheVariants.{Attempt, Driver}
use Rattle.s3_types.specs.declared.request.Mode.{Mode}
use Rattle.s3_types.specs.declared.request.Mode.TheVariants.{Fail}
use Rattle.s3_types.specs.declared.request.Request.{Request}
use Rattle.std.specs.Option.{option_map}
use Rattle.std.specs.Prelude.{Bool, List, None, Option, Some, cond, true, ℕ}
use Rattle.job_model.specs.declared.events.Op.TheVariants as ops
use Rattle.job_model.specs.declared.ends.OpEnd.TheVariants as ends

-- An operation in progress. All but the job's commit send one request at a time, with retries.
pub data Operation : Type 0 where
  TheSetup : (setup : Retried Setup) → Operation
  TheWrite : (write : Retried Write) → Operation
  TheTaskCommit : (commit : Retried TaskCommit) → Operation
  TheTaskAbort : (abort : Retried TaskAbort) → Operation
  TheCommit : (commit : Commit) → Operation
  TheClean : (clean : Retried Clean) → Operation
  -- Operations at a destination that another job shares: the conflict check before a commit of the mode fail, and an abort or clean that
  -- spares what belongs to the other job.
  TheCheck : (check : Retried Check) → Operation
  TheSparing : (sparing : Retried Sparing) → Operation

-- What stays the same during a run: the script, the store's minimum size in bytes of a part, and whether another job shares the
-- destination.
pub record Setting : Type 0 where
  pub script : Script
  pub minimum : ℕ
  pub shared : Bool

-- The name of an attempt. For other actors it is a placeholder that no operation uses.
abbrev pub who : Actor → Who
who (Attempt task attempt) = record { task = task; attempt = attempt }
who _ = record { task = 0; attempt = 0 }

-- The next request of the operation, if its attempt knows `k`; or none.
abbrev pub asks : Setting → Who → Known → Operation → Option Request
asks g a k (TheSetup t) = setup_asks g.script t.operation
asks g a k (TheWrite t) = write_asks g.script a k t.operation
asks g a k (TheTaskCommit t) = task_commit_asks g.script a k t.operation
asks g a k (TheTaskAbort t) = task_abort_asks g.script a t.operation
asks g a k (TheCommit c) = commit_asks g.script c
asks g a k (TheClean t) = clean_asks g.script t.operation
asks g a k (TheCheck t) = check_asks g.script t.operation
asks g a k (TheSparing t) = sparing_asks g.script t.operation

-- The operation after a step of the check: a clear check goes on as the commit.
abbrev pub after_check_by : Setting → Retried Check → Check → Operation
after_check_by g t (CheckOver Clear) = TheCommit (commit_start g.script None)
after_check_by g t _ = TheCheck t

-- The check, or the commit if the check is clear.
abbrev pub after_check : Setting → Retried Check → Operation
after_check g t = after_check_by g t t.operation

-- The operation after the outcome of its send.
abbrev pub tells : Setting → Who → Operation → Outcome → Operation
tells g a (TheSetup t) o = TheSetup (step g.script.retries (setup_after g.script) t o)
tells g a (TheWrite t) o = TheWrite (step g.script.retries (write_after g.script g.minimum) t o)
tells g a (TheTaskCommit t) o = TheTaskCommit (step g.script.retries (task_commit_after g.script g.minimum a) t o)
tells g a (TheTaskAbort t) o = TheTaskAbort (step g.script.retries (task_abort_after g.script) t o)
tells g a (TheCommit c) o = TheCommit (commit_tells g.script c o)
tells g a (TheClean t) o = TheClean (step g.script.retries (clean_after g.script) t o)
tells g a (TheCheck t) o = after_check g (step g.script.retries (check_after g.script) t o)
tells g a (TheSparing t) o = TheSparing (step g.script.retries (sparing_after g.script) t o)

-- How the operation ended, if it is over.
abbrev pub over : Operation → Option OpEnd
over (TheSetup t) = option_map ends.Setup (setup_over t.operation)
over (TheWrite t) = option_map ends.Task (write_over t.operation)
over (TheTaskCommit t) = option_map ends.Task (task_commit_over t.operation)
over (TheTaskAbort t) = option_map ends.Task (task_abort_over t.operation)
over (TheCommit c) = option_map ends.Commit (commit_over c)
over (TheClean t) = option_map ends.Clean (clean_over t.operation)
over (TheCheck t) = option_map ends.Check (check_over t.operation)
over (TheSparing t) = option_map ends.Clean (sparing_over t.operation)

-- What a driver knows of its tasks: the lowest task without a reported commit, and the attempts that reported theirs.
pub record Reports : Type 0 where
  pub missing : Option ℕ
  pub attempts : List Who

-- The commit as it begins. If another job shares the destination, the mode is fail and no task is missing, it begins with the check.
abbrev pub commit_by : Setting → Bool → Mode → Reports → Option ℕ → Operation
commit_by g true Fail r None = after_check g (fresh g.script.retries (check_start g.script r.attempts))
commit_by g shared mode r missing = TheCommit (commit_start g.script missing)

-- The commit of a job as it begins, by the driver's reports.
abbrev pub commit_of : Setting → Reports → Operation
commit_of g r = commit_by g g.shared g.script.mode r r.missing

-- An abort or clean as it begins.
abbrev pub clean_of : Setting → Operation
clean_of g = cond g.shared (TheSparing (fresh g.script.retries (sparing_start g.script.committer)))
    (TheClean (fresh g.script.retries clean_start))

-- The operation of an actor as it begins, if the actor has it. It depends on what an attempt knows, and for the job's commit on the
-- reports.
abbrev pub start_of : Setting → Actor → Op → Reports → Known → Option Operation
start_of g Driver ops.Setup r k = Some (TheSetup (fresh g.script.retries setup_start))
start_of g Driver ops.Commit r k = Some (commit_of g r)
start_of g Driver ops.Abort r k = Some (clean_of g)
start_of g Driver ops.Clean r k = Some (clean_of g)
start_of g (Attempt t a) ops.Write r k = Some (TheWrite (fresh g.script.retries (write_start g.script (record { task = t; attempt = a }))))
start_of g (Attempt t a) ops.Commit r k = Some (TheTaskCommit (fresh g.script.retries
    (task_commit_start g.script (record { task = t; attempt = a }))))
start_of g (Attempt t a) ops.Abort r k = Some (TheTaskAbort (fresh g.script.retries (task_abort_start g.script k)))
start_of g _ _ r k = None

-- ---- an operation with what its attempt knows

-- An operation in progress, with what its attempt knows.
pub record Running : Type 0 where
  pub operation : Operation
  pub known : Known

-- The next request, or none.
abbrev pub wants : Setting → Actor → Running → Option Request
wants g a m = asks g (who a) m.known m.operation

-- What the attempt knows after a send of this request.
abbrev pub learn_of : Script → Who → Known → Option Request → Outcome → Known
learn_of w a k (Some r) o = learn w a k r o
learn_of w a k None o = k

-- The operation and the knowledge after the outcome of a send.
abbrev pub advance : Setting → Actor → Running → Outcome → Running
advance g a m o = record { operation = tells g (who a) m.operation o; known = learn_of g.script (who a) m.known (wants g a m) o }
