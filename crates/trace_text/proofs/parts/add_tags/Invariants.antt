use Rattle.std.proofs.Common.{◌++◌, ◌≡◌, length, map}
use Rattle.s3_types.specs.Blocks.{parts_of}
use Rattle.s3_types.specs.Tags.{plain_tag}
use Rattle.trace_text.proofs.parts.add_tags.Given as goal

abbrev pub invariant-parts : goal.invariant-parts
invariant-parts l =
    l.tags.items ++ map plain_tag (parts_of l.size l.rest) ≡ l.fn.tags.items ++ map plain_tag (parts_of l.size l.bytes)

abbrev pub decreases-parts : goal.decreases-parts
decreases-parts l = length l.rest
