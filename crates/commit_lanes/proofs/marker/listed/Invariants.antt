use Rattle.std.proofs.Common.{◌≡◌, map}
use Rattle.commit_lanes.proofs.marker.listed.Given as goal

abbrev pub invariant-loop-path : goal.invariant-loop-path
invariant-loop-path l = l.list ≡ map (λ p. p.now) l.yielded
