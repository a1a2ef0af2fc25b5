use Rattle.std.proofs.Common.{drop, ◌++◌, ◌+◌, ◌≡◌}
use Rattle.twin_jobs.specs.Order.{others_in}
use Rattle.twin_jobs.proofs.order.others_of.Given as goal

abbrev pub invariant-loop-place : goal.invariant-loop-place
invariant-loop-place l = others_in l.side 1 l.sides ≡ l.others.items ++ others_in l.side (l.place + 1) (drop l.place l.sides)
