use Rattle.marker_tool.specs.Markers.{is_surplus}
use Rattle.std.proofs.Common.{drop, map, ◌++◌, ◌≡◌}
use Rattle.std.specs.List.{filter}
use Rattle.marker_tool.proofs.listed.surplus_of.Given as goal

abbrev pub invariant-loop-marker : goal.invariant-loop-marker
invariant-loop-marker l = l.keys ++ map (λ x. x.key) (filter (λ x. is_surplus x.kind) (drop l.marker-index l.markers)) ≡ map (λ x. x.key)
    (filter (λ x. is_surplus x.kind) l.markers)
