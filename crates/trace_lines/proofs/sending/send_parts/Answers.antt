use Rattle.serde.proofs.Events.{WritesEach-more, WritesSeq-ends}
use Rattle.std.proofs.Common.{refl, rules}
use Rattle.std.proofs.lemmas.Result.{on_ok_weaker}
use Rattle.trace_lines.proofs.Sent.{Sends, seq_sent}
use Rattle.trace_lines.specs.Requests.{part_object}
use Rattle.trace_lines.proofs.sending.send_parts.Goals as goal

pub loop-part-preserved : goal.loop-part-preserved
loop-part-preserved g c = WritesEach-more (Sends part_object) _ _ _ _ _ _ (search rules) c.part-item.is c.loop-part.invariant
    c.in_ok-send_part.ensures

pub returns : goal.returns
returns g c = on_ok_weaker c.end_seq.result (λ ended. seq_sent part_object c.args.parts.now _ _
    (WritesSeq-ends (Sends part_object) _ _ _ _ _ _ _ _ refl (search rules) (search rules) c.in_ok-begin_seq.ensures c.loop-part.invariant
    ended)) c.end_seq.ensures
