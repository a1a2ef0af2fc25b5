use Rattle.commit_lanes.proofs.Undoing.{tried_part}
use Rattle.commit_lanes.specs.Undos.{NumbersWithin}
use Rattle.commit_lanes.specs.inner.Undos.{Adds}
use Rattle.std.proofs.Common.{◌≤◌}
use Rattle.commit_lanes.proofs.reverting.add_tried.Given as goal

abbrev pub invariant-loop-n : goal.invariant-loop-n
invariant-loop-n l = (l.n ≤ l.total) × Adds l.total (tried_part l.lanes.turns l.n) l.initial.list l.list
    × (NumbersWithin l.total l.initial.list → NumbersWithin l.total l.list)

abbrev pub decreases-loop-n : goal.decreases-loop-n
decreases-loop-n l = l.n
