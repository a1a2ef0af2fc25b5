use Rattle.std.proofs.Common.{◌≡◌, map, take}
use Rattle.task_requests.proofs.drawn.tags_of.Given as goal

abbrev pub invariant-loop-part : goal.invariant-loop-part
invariant-loop-part l = l.tags ≡ map (λ p. p.tag) (take l.part-index l.parts)
