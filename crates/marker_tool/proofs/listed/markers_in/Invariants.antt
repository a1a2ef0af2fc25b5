use Rattle.marker_tool.specs.Markers.{markers_in}
use Rattle.std.proofs.Common.{length, ◌++◌, ◌≡◌}
use Rattle.marker_tool.proofs.listed.markers_in.Given as goal

abbrev pub invariant-loop-entry : goal.invariant-loop-entry
invariant-loop-entry l = l.markers ++ markers_in l.left ≡ markers_in l.entries

abbrev pub decreases-loop-entry : goal.decreases-loop-entry
decreases-loop-entry l = length l.left
