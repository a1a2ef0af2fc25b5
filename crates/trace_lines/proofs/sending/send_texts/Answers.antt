use Rattle.serde.proofs.Events.{WritesEach-more, WritesSeq-ends}
use Rattle.serde_json.specs.Data.{string}
use Rattle.std.proofs.Common.{refl, rules, ◌∙◌}
use Rattle.std.proofs.lemmas.Result.{on_ok_weaker}
use Rattle.trace_lines.proofs.Sent.{Sends, said_is, seq_sent}
use Rattle.trace_lines.proofs.sending.send_texts.Goals as goal

pub loop-key-preserved : goal.loop-key-preserved
loop-key-preserved g c = WritesEach-more (Sends string) _ _ _ _ _ _ (search rules) c.key-item.is c.loop-key.invariant
    (said_is _ _ _ _ (c.as_str.ensures ∙ c.as_text.ensures.text) c.in_ok-str.ensures)

pub returns : goal.returns
returns g c = on_ok_weaker c.end_seq.result (λ ended. seq_sent string c.args.keys.now _ _
    (WritesSeq-ends (Sends string) _ _ _ _ _ _ _ _ refl (search rules) (search rules) c.in_ok-begin_seq.ensures c.loop-key.invariant ended))
    c.end_seq.ensures
