use Rattle.std.proofs.Common.{drop, ◌≡◌}
use Rattle.soundness.specs.Paths.{is_visible, is_visible_from}
use Rattle.trace_reader.proofs.paths.is_visible.Given as goal

abbrev pub invariant-loop-b : goal.invariant-loop-b
invariant-loop-b l = is_visible_from l.begins (drop l.b-index l.path) ≡ is_visible l.path
