use Rattle.marker_tool.specs.Markers.{missing_from}
use Rattle.std.proofs.Common.{length, ◌++◌, ◌≡◌}
use Rattle.marker_tool.proofs.listed.missing_from.Given as goal

abbrev pub invariant-loop-entry : goal.invariant-loop-entry
invariant-loop-entry l = l.missing ++ missing_from l.prefix l.before l.left ≡ missing_from l.prefix l.fn.before l.entries

abbrev pub decreases-loop-entry : goal.decreases-loop-entry
decreases-loop-entry l = length l.left
