use Rattle.pending_json.proofs.Sent.{WritesText}
use Rattle.serde.specs.Event.{WritesEach}
use Rattle.std.proofs.Common.{take}
use Rattle.pending_json.proofs.sending.send_texts.Given as goal

abbrev pub invariant-loop-text : goal.invariant-loop-text
invariant-loop-text g l = WritesEach WritesText (take l.text-index l.all) (g.S.Serializer.written l.initial.out)
    (g.S.Serializer.written l.out)
