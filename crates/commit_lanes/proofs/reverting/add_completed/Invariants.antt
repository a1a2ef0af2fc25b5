use Rattle.commit_lanes.proofs.Undoing.{done_part}
use Rattle.commit_lanes.specs.Undos.{NumbersWithin}
use Rattle.commit_lanes.specs.inner.Undos.{Adds}
use Rattle.std.proofs.Common.{length, ◌≤◌}
use Rattle.commit_lanes.proofs.reverting.add_completed.Given as goal

abbrev pub invariant-loop-n : goal.invariant-loop-n
invariant-loop-n l = (l.n ≤ length l.finished) × Adds l.total (done_part l.finished l.n) l.initial.list l.list
    × (NumbersWithin l.total l.initial.list → NumbersWithin l.total l.list)

abbrev pub decreases-loop-n : goal.decreases-loop-n
decreases-loop-n l = l.n
