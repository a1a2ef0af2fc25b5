use Rattle.commit_lanes.specs.Places.{places_from}
use Rattle.std.proofs.Common.{drop, ◌++◌, ◌≡◌}
use Rattle.commit_lanes.proofs.places.placed.Given as goal

abbrev pub invariant-loop-n : goal.invariant-loop-n
invariant-loop-n l = l.places ++ places_from l.n (drop l.n l.sets) ≡ places_from 0 l.sets
