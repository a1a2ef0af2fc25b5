use Rattle.std.proofs.Common.{◌≡◌, map, take}
use Rattle.task_staging.proofs.opening.paths_of.Given as goal

abbrev pub invariant-loop-place : goal.invariant-loop-place
invariant-loop-place l = l.paths ≡ map (λ f. f.0) (take l.place l.plan.files)
