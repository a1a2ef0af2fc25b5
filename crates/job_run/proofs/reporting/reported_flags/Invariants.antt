use Rattle.job_run.specs.inner.Reporting.{AreFlags}
use Rattle.job_run.proofs.reporting.reported_flags.Given as goal

abbrev pub invariant-loop-place : goal.invariant-loop-place
invariant-loop-place l = AreFlags l.script l.states l.place l.flags.items
