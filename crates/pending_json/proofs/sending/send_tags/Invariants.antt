use Rattle.pending_json.proofs.Sent.{WritesTag}
use Rattle.serde.specs.Event.{WritesEach}
use Rattle.std.proofs.Common.{take}
use Rattle.pending_json.proofs.sending.send_tags.Given as goal

abbrev pub invariant-loop-tag : goal.invariant-loop-tag
invariant-loop-tag g l = WritesEach WritesTag (take l.tag-index l.tags) (g.S.Serializer.written l.initial.out)
    (g.S.Serializer.written l.out)
