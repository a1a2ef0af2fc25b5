use Rattle.marker_tool.specs.Markers.{is_due}
use Rattle.std.proofs.Common.{drop, ◌++◌, ◌≡◌}
use Rattle.std.specs.List.{filter}
use Rattle.marker_tool.proofs.listed.add_due.Given as goal

abbrev pub invariant-loop-marker : goal.invariant-loop-marker
invariant-loop-marker l = l.missing ++ filter (is_due l.prefix l.before) (drop l.marker-index l.markers) ≡ l.fn.missing ++ filter
    (is_due l.prefix l.before) l.markers
