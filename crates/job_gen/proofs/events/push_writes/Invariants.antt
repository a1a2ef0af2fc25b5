use Rattle.job_gen.specs.Made.{below, start_write}
use Rattle.std.proofs.Common.{map, ◌++◌, ◌≡◌}
use Rattle.job_gen.proofs.events.push_writes.Given as goal

abbrev pub invariant-loop-task : goal.invariant-loop-task
invariant-loop-task l = l.events ≡ l.fn.events ++ map start_write (below l.task)
