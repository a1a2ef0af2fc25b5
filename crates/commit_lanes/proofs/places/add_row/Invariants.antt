use Rattle.commit_lanes.specs.Places.{row}
use Rattle.std.proofs.Common.{◌++◌, ◌≡◌}
use Rattle.commit_lanes.proofs.places.add_row.Given as goal

abbrev pub invariant-loop-index : goal.invariant-loop-index
invariant-loop-index l = l.places ≡ l.initial.places ++ row l.set l.index
