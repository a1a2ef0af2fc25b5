use Rattle.std.proofs.Common.{◌≡◌, take}
use Rattle.devices.proofs.kept.memory.copied_changes.Given as goal

abbrev pub invariant-loop-change : goal.invariant-loop-change
invariant-loop-change l = l.copy ≡ take l.change-index l.changes
