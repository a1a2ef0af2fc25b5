use Rattle.s3a_shell.specs.Texts.{marker_line}
use Rattle.std.proofs.Common.{drop, string_bytes, ◌++◌, ◌≡◌}
use Rattle.std.specs.List.{flat_map}
use Rattle.s3a_shell.proofs.markers.marker_lines.Given as goal

abbrev pub invariant-loop-entry : goal.invariant-loop-entry
invariant-loop-entry l = string_bytes l.lines ++ flat_map marker_line (drop l.entry-index l.entries) ≡ flat_map marker_line l.entries
