use Rattle.s3_types.specs.Multipart.{rises_from}
use Rattle.std.proofs.Common.{drop, ◌≡◌}
use Rattle.multipart.proofs.join.rises_from.Given as goal

abbrev pub invariant-loop-named : goal.invariant-loop-named
invariant-loop-named l = rises_from l.last (drop l.named-index l.parts) ≡ rises_from l.number l.parts
