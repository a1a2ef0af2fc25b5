use Rattle.s3_types.specs.Tags.{is_plain_tag}
use Rattle.std.proofs.Common.{length, true, ◌≡◌}
use Rattle.std.specs.List.{list_all}
use Rattle.pending_json.proofs.quick.plain_tags.Given as goal

abbrev pub invariant-loop-item : goal.invariant-loop-item
invariant-loop-item l = list_all is_plain_tag l.tags ≡ true

abbrev pub decreases-loop-item : goal.decreases-loop-item
decreases-loop-item l = length l.rest
