-- The laws of an attempt's operations, for every committer.
use Rattle.job_model.specs.Attempts.{Who}
use Rattle.job_model.specs.JobScript.{Script}
use Rattle.job_model.specs.Jobs.{Task}
use Rattle.job_model.specs.Known.{Known}
use Rattle.job_model.specs.declared.ends.TaskEnd.{TaskEnd}
use Rattle.job_protocol.specs.AtWork.{Attempting, learned, task_abort_told, task_abort_wants, task_commit_told, task_commit_wants}
use Rattle.job_protocol.specs.AtWork.{task_script, told, who_of, with_known, write_told, write_wants}
use Rattle.job_protocol.specs.TaskAborts.{TaskAbortOver, task_abort_over}
use Rattle.job_protocol.specs.TaskCommits.{TaskCommitOver, task_commit_over}
use Rattle.job_protocol.specs.Writes.{WriteOver, write_over}
use Rattle.machine.specs.Asks.{AskLaws}
use Rattle.machine.specs.Standing.{Standing}
use Rattle.retries.specs.Retries.{Item, OutOfMemory, WornOut}
use Rattle.s3_types.specs.declared.reply.Reply.{Reply}
use Rattle.s3_types.specs.declared.request.Request.{Request}
use Rattle.std.proofs.Common.{ap, refl}
use Rattle.std.specs.Prelude.{Bool, None, Option, Some, ◌≡◌}
use Rattle.task_operation.specs.AbortStands.{abort_laws, abort_standing}
use Rattle.task_operation.specs.Aborts.{abort_fits}
use Rattle.task_operation.specs.CommitStands.{commit_laws, commit_standing}
use Rattle.task_operation.specs.Commits.{commit_fits}
use Rattle.task_operation.specs.Writes.{write_asks, write_standing}
use Rattle.task_requests.specs.Writing.{write_fits}
use Rattle.job_model.specs.declared.ends.TaskEnd.TheVariants as ends

-- An operation together with its plan.
abbrev pub at : {O : Type 0} → Task → O → Attempting O
at t o = record { plan = t; operation = o }

-- The laws that each operation of an attempt satisfies, whatever its committer.
pub record TaskLaws {O : Type 0} (wants : Attempting O → Option Request) (after : Attempting O → Item → Attempting O)
    (fits : Attempting O → Reply → Bool → Type 0) (over : O → Option TaskEnd) (standing : Attempting O → Standing)
    (ended : TaskEnd → O) : Type 0 where
  pub asks : AskLaws wants after fits (λ m. over m.operation) standing
  -- Out of memory, the operation ends and the plan stays the same.
  pub broken : (m : Attempting O) → after m OutOfMemory ≡ at m.plan (ended ends.NoMemory)
  -- After a request exhausted its retries, the operation sends nothing more.
  pub worn : (m : Attempting O) → wants (after m WornOut) ≡ None

no_memory : (w : Script) (a : Who) (k : Known) (asked : Option Request) → learned w a k asked OutOfMemory ≡ k
no_memory w a k (Some r) = refl
no_memory w a k None = refl

broken : {O : Type 0} (m : Attempting O) (asked : Option Request) (next : O) → told m asked OutOfMemory next ≡ at m.plan next
broken {O} m asked next = ap (λ (k : Known). let then : Attempting O = at (with_known m.plan k) next in then)
    (no_memory (task_script m.plan) (who_of m.plan) m.plan.known asked)

pub write_is : TaskLaws write_wants write_told write_fits write_over write_standing WriteOver
write_is = record { asks = write_asks; broken = λ m. broken m _ _; worn = λ m. refl }

pub commit_is : TaskLaws task_commit_wants task_commit_told commit_fits task_commit_over commit_standing TaskCommitOver
commit_is = record { asks = commit_laws; broken = λ m. broken m _ _; worn = λ m. refl }

pub abort_is : TaskLaws task_abort_wants task_abort_told abort_fits task_abort_over abort_standing TaskAbortOver
abort_is = record { asks = abort_laws; broken = λ m. broken m _ _; worn = λ m. refl }
