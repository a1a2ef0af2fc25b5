use Rattle.pending_json.proofs.Sent.{WritesText, said_is, texts_sent}
use Rattle.serde.proofs.Events.{WritesEach-more, WritesSeq-ends}
use Rattle.std.proofs.Common.{refl, rules}
use Rattle.std.proofs.lemmas.Result.{on_ok_weaker}
use Rattle.pending_json.proofs.sending.send_texts.Goals as goal

pub loop-text-preserved : goal.loop-text-preserved
loop-text-preserved g c = WritesEach-more WritesText _ _ _ _ _ _ (search rules) c.text-item.is c.loop-text.invariant
    (said_is _ _ _ _ c.as_str.ensures c.in_ok-str.ensures)

pub returns : goal.returns
returns g c = on_ok_weaker c.end_seq.result (λ ended. (
  _,
  c.in_ok-key.ensures,
  texts_sent c.args.all.now _ _
      (WritesSeq-ends WritesText _ _ _ _ _ _ _ _ refl (search rules) (search rules) c.in_ok-begin_seq.ensures c.loop-text.invariant ended),
))
    c.end_seq.ensures
