use Rattle.pending_json.proofs.Sent.{set_sent, text_is, uploads_are, whole_is}
use Rattle.std.proofs.lemmas.Result.{on_ok_weaker}
use Rattle.pending_json.proofs.sending.PendingSetSerialize.serialize.Goals as goal

pub returns : goal.returns
returns g c = on_ok_weaker c.end_map.result (set_sent c.args.self.now _ _ _ _ _ _ _ _ _
    (whole_is _ _ _ _ _ c.from.ensures c.in_ok-send_whole.ensures)
    (uploads_are _ _ _ _ _ c.as_slice.ensures c.in_ok-send_uploads.ensures)
    (text_is _ _ _ _ _ c.as_str.ensures c.in_ok-send_text.ensures)
    c.in_ok-send_text-2.ensures
    (whole_is _ _ _ _ _ c.from-2.ensures c.in_ok-send_whole-2.ensures)
    c.in_ok-send_whole-3.ensures
    c.in_ok-begin_map.ensures) c.end_map.ensures
