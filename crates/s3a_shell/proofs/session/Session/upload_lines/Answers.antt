use Rattle.s3_types.specs.declared.request.UploadRef.{UploadRef}
use Rattle.s3a_shell.proofs.Asking.{in_drop, one_more}
use Rattle.s3a_shell.proofs.Few.{few_more}
use Rattle.s3a_shell.proofs.Joining.{still_both}
use Rattle.s3a_shell.proofs.Listing.{more_lines}
use Rattle.s3a_shell.specs.Asking.{lists}
use Rattle.std.proofs.Common.{ap, drop, string_bytes, sym, ◌+◌, ◌∙◌, ◌∷◌}
use Rattle.std.proofs.lemmas.List.{drop_more}
use Rattle.s3a_shell.proofs.session.Session.upload_lines.Goals as goal

pub loop-upload-preserved : goal.loop-upload-preserved
loop-upload-preserved c =
    let us = c.args.uploads.now in
    let i = c.loop-upload.upload-index in
    let x = c.upload-item.result in
    let front = drop_more us i x c.loop-upload-test.true ∙ ap (λ (y : UploadRef). y ∷ drop (i + 1) us) (sym c.upload-item.is) in
    let e = c.in_ok-put_upload.ensures in
    let v = c.loop-upload.invariant in
    record {
      same = e.same ∙ v.same;
      looks = e.looks ∙ v.looks;
      few = few_more i _ _ _ v.few e.few;
      asked = one_more lists c.args.bucket.now us x _ _ _ (in_drop i us x (drop (i + 1) us) front) v.asked e.asked;
      sent = still_both _ _ _ v.same v.sent e.sent;
      text = more_lines c.args.self.now.store.scene c.loop-upload.self.store.scene c.args.bucket.now (string_bytes c.loop-upload.lines)
          (string_bytes c.put_upload.new.lines) us i x front v.same e.line v.text;
    }
