use Rattle.md5.specs.Md5.{Holds}
use Rattle.s3_types.specs.Tags.{digest_of}
use Rattle.std.proofs.Common.{take}
use Rattle.std.specs.List.{flat_map}
use Rattle.s3_types.proofs.digests.joined_tag.Given as goal

-- The hasher has received the digests of the tags so far.
abbrev pub invariant-loop-tag : goal.invariant-loop-tag
invariant-loop-tag l = Holds l.hasher (flat_map digest_of (take l.tag-index l.tags))
