use Rattle.serde.proofs.Events.{WritesEach-more, WritesSeq-ends}
use Rattle.std.proofs.Common.{refl, rules}
use Rattle.std.proofs.lemmas.Result.{on_ok_weaker}
use Rattle.trace_lines.proofs.Sent.{Sends, tag_data, tags_sent}
use Rattle.trace_lines.proofs.sending.send_tags.Goals as goal

pub loop-tag-preserved : goal.loop-tag-preserved
loop-tag-preserved g c = WritesEach-more (Sends tag_data) _ _ _ _ _ _ (search rules) c.tag-item.is c.loop-tag.invariant
    c.in_ok-send_tag.ensures

pub returns : goal.returns
returns g c = on_ok_weaker c.end_seq.result (λ ended. tags_sent c.args.tags.now _ _
    (WritesSeq-ends (Sends tag_data) _ _ _ _ _ _ _ _ refl (search rules) (search rules) c.in_ok-begin_seq.ensures c.loop-tag.invariant
    ended)) c.end_seq.ensures
