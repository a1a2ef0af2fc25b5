use Rattle.s3_types.specs.Names.{are_elements}
use Rattle.std.proofs.Common.{length, ◌≡◌}
use Rattle.s3_types.proofs.names.are_elements.Given as goal

abbrev pub invariant-loop-more : goal.invariant-loop-more
invariant-loop-more l = are_elements l.path ≡ are_elements l.rest

abbrev pub decreases-loop-more : goal.decreases-loop-more
decreases-loop-more l = length l.rest
