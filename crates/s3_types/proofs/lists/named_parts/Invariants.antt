use Rattle.s3_types.specs.Blocks.{named_from}
use Rattle.std.proofs.Common.{drop, ◌++◌, ◌+◌, ◌≡◌}
use Rattle.s3_types.proofs.lists.named_parts.Given as goal

abbrev pub invariant-loop-tag : goal.invariant-loop-tag
invariant-loop-tag l = (l.parts ++ named_from l.number (drop l.tag-index l.tags) ≡ named_from 1 l.fn.tags) × (l.number ≡ l.tag-index + 1)
