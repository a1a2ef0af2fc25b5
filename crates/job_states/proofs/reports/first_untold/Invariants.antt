use Rattle.job_states.specs.inner.Stands.{first_false}
use Rattle.std.proofs.Common.{drop, ◌≡◌}
use Rattle.job_states.proofs.reports.first_untold.Given as goal

abbrev pub invariant-loop-task : goal.invariant-loop-task
invariant-loop-task l = first_false l.task (drop l.task l.told) ≡ first_false 0 l.told
