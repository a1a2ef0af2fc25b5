use Rattle.job_model.specs.Jobs.{has_task}
use Rattle.std.proofs.Common.{true, ℕ, ◌<◌, ◌≡◌}
use Rattle.job_commit.proofs.commit.missing.Given as goal

abbrev pub invariant-loop-task : goal.invariant-loop-task
invariant-loop-task l = (t : ℕ) → t < l.task → has_task l.reported t ≡ true
