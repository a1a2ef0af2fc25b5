use Rattle.std.proofs.Common.{take}
use Rattle.serde.specs.Event.{WritesEach}
use Rattle.serde_json.specs.Data.{string}
use Rattle.trace_lines.proofs.Sent.{Sends}
use Rattle.trace_lines.proofs.sending.send_texts.Given as goal

abbrev pub invariant-loop-key : goal.invariant-loop-key
invariant-loop-key g l = WritesEach (Sends string) (take l.key-index l.keys) (g.S.Serializer.written l.initial.out)
    (g.S.Serializer.written l.out)
