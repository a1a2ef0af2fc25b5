use Rattle.pending_json.proofs.Sent.{WritesTag, said_is, tags_sent}
use Rattle.serde.proofs.Events.{WritesEach-more, WritesSeq-ends}
use Rattle.std.proofs.Common.{refl, rules}
use Rattle.std.proofs.lemmas.Result.{on_ok_weaker}
use Rattle.pending_json.proofs.sending.send_tags.Goals as goal

pub loop-tag-preserved : goal.loop-tag-preserved
loop-tag-preserved g c = WritesEach-more WritesTag _ _ _ _ _ _ (search rules) c.tag-item.is c.loop-tag.invariant
    (said_is _ _ _ _ c.digits_text.ensures c.in_ok-str.ensures)

pub returns : goal.returns
returns g c = on_ok_weaker c.end_seq.result (λ ended. (
  _,
  c.in_ok-key.ensures,
  tags_sent c.args.tags.now _ _
      (WritesSeq-ends WritesTag _ _ _ _ _ _ _ _ refl (search rules) (search rules) c.in_ok-begin_seq.ensures c.loop-tag.invariant ended),
))
    c.end_seq.ensures
