use Rattle.job_model.specs.Jobs.{has_task}
use Rattle.std.proofs.Common.{false, nat_lt, slice_get, unwrap_or, ℕ, ◌&&◌, ◌≡◌}
use Rattle.job_states.proofs.reports.told_tasks.Given as goal

abbrev pub invariant-loop-task : goal.invariant-loop-task
invariant-loop-task l = (t : ℕ) → has_task l.set t ≡ (nat_lt t l.task && unwrap_or (slice_get l.told t) false)
