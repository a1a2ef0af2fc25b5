use Rattle.std.proofs.Common.{take}
use Rattle.serde.specs.Event.{WritesEach}
use Rattle.trace_lines.proofs.Sent.{Sends, tag_data}
use Rattle.trace_lines.proofs.sending.send_tags.Given as goal

abbrev pub invariant-loop-tag : goal.invariant-loop-tag
invariant-loop-tag g l = WritesEach (Sends tag_data) (take l.tag-index l.tags) (g.S.Serializer.written l.initial.out)
    (g.S.Serializer.written l.out)
