use Rattle.s3_types.specs.Multipart.{bytes_of}
use Rattle.std.proofs.Common.{drop, ◌++◌, ◌≡◌}
use Rattle.std.specs.List.{flat_map}
use Rattle.multipart.proofs.join.copied_bytes.Given as goal

abbrev pub invariant-loop-named : goal.invariant-loop-named
invariant-loop-named l = l.bytes.items ++ flat_map (bytes_of l.held) (drop l.named-index l.parts) ≡ flat_map (bytes_of l.held) l.parts
