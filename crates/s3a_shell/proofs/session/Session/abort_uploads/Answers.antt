use Rattle.std.proofs.Common.{refl}
use Rattle.s3a_shell.proofs.Aborting.{did_abort, sent_some}
use Rattle.s3a_shell.proofs.Asking.{pages_asked, uploads_asked}
use Rattle.s3a_shell.specs.Uploading.{aborts}
use Rattle.s3a_shell.proofs.Performing.{on_ok}
use Rattle.s3a_shell.proofs.Few.{pages_few, uploads_few}
use Rattle.s3a_shell.specs.Most.{uploads_at}
use Rattle.s3a_shell.proofs.session.Session.abort_uploads.Goals as goal

pub returns-in_ok-aborted_line-in-Some-clause-did :
    goal.returns-in_ok-aborted_line-in-Some-clause-did
returns-in_ok-aborted_line-in-Some-clause-did c =
    let e = c.in_ok-live_uploads.ensures in
    did_abort c.args.path.now c.args.self.now.store.scene c.live_uploads.new.self.store.scene c.abort_all.new.self.store.scene
    c.in_ok-live_uploads.field-0 c.in-Some.found c.as_slice.result.now c.bucket.result.now c.in_ok-aborted_line-in-Some.field-0
    c.len.result
    c.fine.result e.found c.in-Some.is c.as_slice.ensures c.bucket.ensures e.same c.in_ok-abort_all-in-Some.ensures.scene c.len.ensures
    c.in_ok-aborted_line-in-Some.ensures c.fine.ensures

pub returns-in_ok-aborted_line-in-Some-clause-sent :
    goal.returns-in_ok-aborted_line-in-Some-clause-sent
returns-in_ok-aborted_line-in-Some-clause-sent c =
    let e = c.in_ok-live_uploads.ensures in
    sent_some c.args.path.now c.args.self.now.store.scene c.in_ok-live_uploads.field-0 c.in-Some.found c.as_slice.result.now
    c.bucket.result.now c.args.self.now c.live_uploads.new.self c.abort_all.new.self
    e.found c.in-Some.is c.as_slice.ensures c.bucket.ensures e.same refl e.sent c.in_ok-abort_all-in-Some.ensures.sent

pub returns-in_ok-aborted_line-in-Some-clause-asked :
    goal.returns-in_ok-aborted_line-in-Some-clause-asked
returns-in_ok-aborted_line-in-Some-clause-asked c =
    let e = c.in_ok-live_uploads.ensures in
    uploads_asked aborts c.args.path.now c.args.self.now.store.scene c.in_ok-live_uploads.field-0 c.in-Some.found c.as_slice.result.now
    c.bucket.result.now c.args.self.now c.live_uploads.new.self c.abort_all.new.self
    e.found c.in-Some.is c.as_slice.ensures c.bucket.ensures e.asked c.in_ok-abort_all-in-Some.ensures.asked

pub returns-in-None-clause-asked : goal.returns-in-None-clause-asked
returns-in-None-clause-asked c =
    on_ok c.refusing.result (pages_asked aborts c.args.path.now c.args.self.now.store.scene _ _ c.in_ok-live_uploads.ensures.asked)

pub returns-in_ok-aborted_line-in-Some-clause-few :
    goal.returns-in_ok-aborted_line-in-Some-clause-few
returns-in_ok-aborted_line-in-Some-clause-few c =
    let e = c.in_ok-live_uploads.ensures in
    uploads_few c.args.path.now c.args.self.now.store.scene c.in_ok-live_uploads.field-0 c.in-Some.found c.as_slice.result.now
    _ _ _ e.found c.in-Some.is c.as_slice.ensures e.few c.in_ok-abort_all-in-Some.ensures.few

pub returns-in-None-clause-few : goal.returns-in-None-clause-few
returns-in-None-clause-few c =
    on_ok c.refusing.result
    (pages_few (uploads_at c.args.path.now c.args.self.now.store.scene) _ _
    c.in_ok-live_uploads.ensures.few)
