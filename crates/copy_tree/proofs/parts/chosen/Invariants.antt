use Rattle.copy_tree.specs.inner.Parts.{chosen}
use Rattle.std.proofs.Common.{length, ◌++◌, ◌≡◌}
use Rattle.copy_tree.proofs.parts.chosen.Given as goal

-- The keys chosen so far and those of the keys that are left make all chosen keys.
abbrev pub invariant-loop-key : goal.invariant-loop-key
invariant-loop-key l = l.chosen ++ chosen l.wanted l.left l.left_places l.listed ≡ chosen l.wanted l.keys l.places l.entries

abbrev pub decreases-loop-key : goal.decreases-loop-key
decreases-loop-key l = length l.left
