use Rattle.folder_log.specs.Calls.{filled}
use Rattle.std.proofs.Common.{drop, ◌≡◌}
use Rattle.folder_log.proofs.state.torn_file.Given as goal

abbrev pub invariant-loop-range : goal.invariant-loop-range
invariant-loop-range l = filled l.byte (drop l.range-index l.ranges) l.torn ≡ filled l.byte l.ranges l.fn.file
