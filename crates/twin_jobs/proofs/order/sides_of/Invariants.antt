use Rattle.std.proofs.Common.{take, ◌≡◌}
use Rattle.twin_script.specs.TwinScripts.{sides_in}
use Rattle.twin_jobs.proofs.order.sides_of.Given as goal

abbrev pub invariant-loop-turn : goal.invariant-loop-turn
invariant-loop-turn l = l.sides.items ≡ sides_in (take l.turn-index l.order)
