use Rattle.std.proofs.Common.{◌≡◌, map, take}
use Rattle.task_requests.proofs.drawn.sizes_of.Given as goal

abbrev pub invariant-loop-part : goal.invariant-loop-part
invariant-loop-part l = l.sizes ≡ map (λ p. p.size) (take l.part-index l.parts)
