use Rattle.copy_tree.specs.inner.Parts.{from_text}
use Rattle.std.proofs.Common.{length, ◌≡◌}
use Rattle.copy_tree.proofs.parts.from_text.Given as goal

abbrev pub invariant-loop-entry : goal.invariant-loop-entry
invariant-loop-entry l = from_text l.text l.left ≡ from_text l.text l.entries

abbrev pub decreases-loop-entry : goal.decreases-loop-entry
decreases-loop-entry l = length l.left
