use Rattle.std.proofs.Common.{◌≡◌}
use Rattle.job_plans.proofs.Reports.{paths_to}
use Rattle.job_plans.proofs.reported.reported_paths.Given as goal

abbrev pub invariant-loop-place : goal.invariant-loop-place
invariant-loop-place l = l.paths ≡ paths_to l.script l.reported l.place
