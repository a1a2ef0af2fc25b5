use Rattle.job_model.specs.Placed.{placed}
use Rattle.std.proofs.Common.{map, ◌++◌, ◌≡◌}
use Rattle.job_plans.proofs.reported.add_paths.Given as goal

abbrev pub invariant-loop-path : goal.invariant-loop-path
invariant-loop-path l = l.paths ++ map (λ f. f.0) (placed l.unique l.job l.path-iterator) ≡ l.fn.paths ++ map (λ f. f.0)
    (placed l.unique l.job l.files)
