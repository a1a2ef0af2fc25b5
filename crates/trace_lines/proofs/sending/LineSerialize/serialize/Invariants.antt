use Rattle.std.proofs.Common.{take}
use Rattle.serde.specs.Event.{WritesEach}
use Rattle.trace_lines.proofs.Sent.{SendsMember}
use Rattle.trace_lines.proofs.sending.LineSerialize.serialize.Given as goal

abbrev pub invariant-loop-member : goal.invariant-loop-member
invariant-loop-member g l = WritesEach SendsMember (take l.member-index l.members) (g.S.Serializer.written l.initial.out)
    (g.S.Serializer.written l.out)
