use Rattle.pending_json.proofs.Sent.{begun_with, mark_sent, text_is, texts_are}
use Rattle.std.proofs.Common.{ap, cond, ◌∙◌}
use Rattle.std.proofs.lemmas.Result.{on_ok_weaker}
use Rattle.pending_json.proofs.sending.SuccessMarkSerialize.serialize.Goals as goal

pub returns : goal.returns
returns g c =
    let m = c.args.self.now in
    on_ok_weaker c.end_map.result (mark_sent m _ _ _ _ _ _ _ _
    (text_is _ _ _ _ _ c.committer_word.ensures c.in_ok-send_text.ensures)
    (texts_are _ _ _ _ _ c.as_slice.ensures c.in_ok-send_texts.ensures)
    (text_is _ _ _ _ _ c.as_str.ensures c.in_ok-send_text-2.ensures)
    c.in_ok-send_text-3.ensures
    m.stamp _
    (begun_with _ _ _ _ (c.count.ensures ∙ ap (λ t. cond t 6 5) c.is_some.ensures) c.in_ok-begin_map.ensures)
    c.in_ok-send_stamp.ensures
    c.in_ok-send_whole.ensures) c.end_map.ensures
