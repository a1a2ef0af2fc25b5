use Rattle.text_and_lists.specs.Parts.{parts_of}
use Rattle.path_keys.specs.Paths.{first_fault}
use Rattle.std.proofs.Common.{length, ◌≡◌}
use Rattle.path_keys.proofs.elements.first_fault.Given as goal

abbrev pub invariant-loop-fault : goal.invariant-loop-fault
invariant-loop-fault l = first_fault (parts_of 47 l.path) ≡ first_fault (parts_of 47 l.rest)

abbrev pub decreases-loop-fault : goal.decreases-loop-fault
decreases-loop-fault l = length l.rest
