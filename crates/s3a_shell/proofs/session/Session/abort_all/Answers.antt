use Rattle.s3_types.specs.declared.request.UploadRef.{UploadRef}
use Rattle.s3a_shell.proofs.Aborting.{more_aborted, sent_more}
use Rattle.s3a_shell.proofs.Asking.{in_take, one_more}
use Rattle.s3a_shell.proofs.Few.{few_more}
use Rattle.s3a_shell.specs.Uploading.{aborts}
use Rattle.std.proofs.Common.{ap, sym, take, [], ◌++◌, ◌+◌, ◌∙◌, ◌∷◌}
use Rattle.std.proofs.lemmas.List.{take_more}
use Rattle.s3a_shell.proofs.session.Session.abort_all.Goals as goal

pub loop-upload-preserved : goal.loop-upload-preserved
loop-upload-preserved c =
    let us = c.args.uploads.now in
    let i = c.loop-upload.upload-index in
    let x = c.upload-item.result in
    let z = c.args.self.now.store.scene in
    let front = take_more us i x c.loop-upload-test.true ∙ ap (λ (y : UploadRef). take i us ++ y ∷ []) (sym c.upload-item.is) in
    let e = c.in_ok-abort.ensures in
    let v = c.loop-upload.invariant in
    let scene = more_aborted z c.loop-upload.self.store.scene c.abort.new.self.store.scene c.args.bucket.now us i x front e.scene v.scene in
    record {
      scene = scene;
      few = few_more i _ _ _ v.few e.few;
      asked = one_more aborts c.args.bucket.now us x _ _ _ (in_take (i + 1) us (take i us) x front) v.asked
          e.asked;
      sent = sent_more z c.args.bucket.now us i x _ _ _ front v.scene v.sent e.sent;
    }
