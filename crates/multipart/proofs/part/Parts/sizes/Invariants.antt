use Rattle.s3_types.specs.Multipart.{size_of}
use Rattle.std.proofs.Common.{map, take, ◌≡◌}
use Rattle.multipart.proofs.part.Parts.sizes.Given as goal

abbrev pub invariant-loop-entry : goal.invariant-loop-entry
invariant-loop-entry l = l.sizes.items ≡ map size_of (take l.entry-index l.held)
