use Rattle.job_plans.proofs.FilePlans.{IsPlacing}
use Rattle.job_plans.proofs.files.placed.Given as goal

abbrev pub invariant-loop-path : goal.invariant-loop-path
invariant-loop-path l = IsPlacing l.unique l.job l.files l.copy l.path-iterator
