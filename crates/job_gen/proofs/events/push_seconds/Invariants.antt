use Rattle.job_gen.specs.Made.{below, is_twice, second_writes}
use Rattle.std.proofs.Common.{filter, ◌++◌, ◌≡◌}
use Rattle.std.specs.List.{flat_map}
use Rattle.job_gen.proofs.events.push_seconds.Given as goal

abbrev pub invariant-loop-task : goal.invariant-loop-task
invariant-loop-task l = l.events ≡ l.fn.events ++ flat_map second_writes (filter is_twice (below l.task))
