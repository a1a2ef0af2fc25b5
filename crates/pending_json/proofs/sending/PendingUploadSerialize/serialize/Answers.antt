use Rattle.text_and_lists.proofs.Options.{some_mapped}
use Rattle.pending_json.proofs.Sent.{begun_with, sizes_are, tags_are, text_is, upload_sent, whole_is}
use Rattle.pending_json.specs.Trees.{version_of}
use Rattle.std.proofs.Common.{ap, cond, is_some, sym, ◌∙◌, ◌≡◌}
use Rattle.std.proofs.lemmas.Result.{on_ok_weaker}
use Rattle.pending_json.proofs.sending.PendingUploadSerialize.serialize.Goals as goal

pub returns : goal.returns
returns g c =
    let p = c.args.self.now in
    let sized : c.is_some-sized.result ≡ is_some p.sizes = c.is_some-sized.ensures ∙ sym (some_mapped (λ s. s.now) c.sizes-sizes.result) ∙
    ap is_some c.sizes-sizes.ensures.value in
    on_ok_weaker c.end_map.result (upload_sent p _ _ _ _ _ _ _ _ _ _ _ _
    (whole_is _ _ _ _ _ (c.from.ensures ∙ c.attempt.ensures) c.in_ok-send_whole.ensures)
    (text_is _ _ _ _ _ (c.as_str.ensures ∙ c.as_text.ensures.text ∙ c.bucket.ensures) c.in_ok-send_text.ensures)
    (text_is _ _ _ _ _ (c.as_str-2.ensures ∙ c.as_text-2.ensures.text ∙ c.destination.ensures) c.in_ok-send_text-2.ensures)
    (tags_are _ _ _ _ _ (c.as_slice.ensures ∙ c.tags.ensures.value) c.in_ok-send_tags.ensures)
    c.in_ok-send_text-3.ensures
    (whole_is _ _ _ _ _ c.length.ensures c.in_ok-send_whole-2.ensures)
    (whole_is _ _ _ _ _ (c.from-2.ensures ∙ c.task.ensures) c.in_ok-send_whole-3.ensures)
    (whole_is _ _ _ _ _ c.upload.ensures c.in_ok-send_whole-4.ensures)
    p.sizes _
    (begun_with _ _ _ _ (c.count.ensures ∙ ap (λ t. cond t 10 9) sized) c.in_ok-begin_map.ensures)
    (sizes_are _ _ _ _ c.sizes-sizes.ensures.value c.in_ok-send_sizes.ensures)
    (whole_is _ _ _ _ _ (c.upload_version.ensures ∙ ap version_of sized) c.in_ok-send_whole-5.ensures)) c.end_map.ensures
