use Rattle.std.proofs.Common.{take}
use Rattle.serde.specs.Event.{WritesEach}
use Rattle.trace_lines.specs.Requests.{part_object}
use Rattle.trace_lines.proofs.Sent.{Sends}
use Rattle.trace_lines.proofs.sending.send_parts.Given as goal

abbrev pub invariant-loop-part : goal.invariant-loop-part
invariant-loop-part g l = WritesEach (Sends part_object) (take l.part-index l.parts) (g.S.Serializer.written l.initial.out)
    (g.S.Serializer.written l.out)
