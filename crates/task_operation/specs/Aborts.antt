-- The replies that fit a task abort, and how many requests it has left, for every committer.
use Rattle.job_model.specs.Attempts.{Who}
use Rattle.job_model.specs.JobScript.{Script}
use Rattle.job_protocol.specs.AtWork.{Attempting, task_script, who_of}
use Rattle.job_protocol.specs.TaskAborts.{Dropping, Removing, Sweeping, TaskAbort, TaskAbortOver}
use Rattle.job_protocol.specs.TaskCommits.{attempt_prefix}
use Rattle.list_walk.specs.Fitting.{FitsSweep}
use Rattle.list_walk.specs.Left.{sweep_left}
use Rattle.list_walk.specs.Walks.{Sweep, sweep_start}
use Rattle.s3_types.specs.Store.{Scene}
use Rattle.s3_types.specs.declared.reply.Reply.{Reply}
use Rattle.s3_types.specs.declared.request.Committer.{Committer}
use Rattle.s3_types.specs.declared.request.Committer.TheVariants.{Magic}
use Rattle.std.specs.Prelude.{Bool, length, ℕ, ◌+◌}

-- While the abort empties a directory, the reply must fit that sweep: an unfolded page lists keys only, and the bucket exists.
abbrev pub FitsAbort : TaskAbort → Reply → Type 0
FitsAbort (Sweeping s) r = FitsSweep s r
FitsAbort _ r = Unit {0}

-- A reply that a task abort may receive.
abbrev pub abort_fits : Attempting TaskAbort → Reply → Bool → Type 0
abort_fits m r repeated = FitsAbort m.operation r

-- How many requests the sweep of the attempt's own directory still needs.
abbrev pub own_left : Script → Who → Sweep → Scene → ℕ
own_left w a v s = sweep_left w.dest.bucket (attempt_prefix w a) v s

-- How many requests follow the aborts of uploads: those of the sweep, or the deletion of the temporary file.
abbrev pub after_left : Committer → Script → Who → Scene → ℕ
after_left Magic w a s = own_left w a sweep_start s
after_left _ w a s = 1

-- How many requests a task abort still has to send.
abbrev pub abort_left_at : Script → Who → TaskAbort → Scene → ℕ
abort_left_at w a (Dropping d ds sent) s = (1 + length ds) + after_left w.committer w a s
abort_left_at w a (Sweeping v) s = own_left w a v s
abort_left_at w a Removing s = 1
abort_left_at w a (TaskAbortOver end) s = 0

-- How many requests a plan's task abort still has to send.
abbrev pub abort_left : Attempting TaskAbort → Scene → ℕ
abort_left m s = abort_left_at (task_script m.plan) (who_of m.plan) m.operation s
