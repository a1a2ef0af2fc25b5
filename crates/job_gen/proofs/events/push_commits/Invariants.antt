use Rattle.job_gen.specs.Made.{below, start_commit}
use Rattle.std.proofs.Common.{map, ◌++◌, ◌≡◌}
use Rattle.job_gen.proofs.events.push_commits.Given as goal

abbrev pub invariant-loop-task : goal.invariant-loop-task
invariant-loop-task l = l.events ≡ l.fn.events ++ map start_commit (below l.task)
