use Rattle.std.proofs.Common.{◌≡◌, ◌++◌, replicate}
use Rattle.twin_jobs.proofs.order.add_turn.Given as goal

abbrev pub invariant-loop : goal.invariant-loop
invariant-loop l = l.sides.items ≡ l.fn.sides.items ++ replicate l.counter l.turn.side
