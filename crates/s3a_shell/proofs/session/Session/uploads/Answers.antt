use Rattle.std.proofs.Common.{◌∙◌}
use Rattle.s3a_shell.proofs.Joining.{still_both}
use Rattle.s3a_shell.proofs.Listing.{did_list}
use Rattle.s3a_shell.proofs.Asking.{pages_asked, uploads_asked}
use Rattle.s3a_shell.specs.Asking.{lists}
use Rattle.s3a_shell.proofs.Performing.{on_ok}
use Rattle.s3a_shell.proofs.Few.{pages_few, uploads_few}
use Rattle.s3a_shell.specs.Most.{uploads_at}
use Rattle.s3a_shell.proofs.session.Session.uploads.Goals as goal

pub returns-in_ok-upload_lines-in-Some-clause-did :
    goal.returns-in_ok-upload_lines-in-Some-clause-did
returns-in_ok-upload_lines-in-Some-clause-did c =
    let e = c.in_ok-live_uploads.ensures in
    let f = c.in_ok-upload_lines-in-Some.ensures in
    did_list c.args.path.now c.args.self.now.store.scene c.live_uploads.new.self.store.scene c.upload_lines.new.self.store.scene
    c.in_ok-live_uploads.field-0 c.in-Some.found c.as_slice.result.now c.bucket.result.now c.in_ok-upload_lines-in-Some.field-0
    c.fine.result
    e.found c.in-Some.is c.as_slice.ensures c.bucket.ensures e.same f.same f.lines c.fine.ensures

pub returns-in_ok-upload_lines-in-Some-clause-sent :
    goal.returns-in_ok-upload_lines-in-Some-clause-sent
returns-in_ok-upload_lines-in-Some-clause-sent c = still_both _ _ _ c.in_ok-live_uploads.ensures.same c.in_ok-live_uploads.ensures.sent
    c.in_ok-upload_lines-in-Some.ensures.sent

pub returns-in_ok-upload_lines-in-Some-clause-looks :
    goal.returns-in_ok-upload_lines-in-Some-clause-looks
returns-in_ok-upload_lines-in-Some-clause-looks c = c.in_ok-upload_lines-in-Some.ensures.looks ∙ c.in_ok-live_uploads.ensures.looks

pub returns-in_ok-upload_lines-in-Some-clause-asked :
    goal.returns-in_ok-upload_lines-in-Some-clause-asked
returns-in_ok-upload_lines-in-Some-clause-asked c =
    let e = c.in_ok-live_uploads.ensures in
    uploads_asked lists c.args.path.now c.args.self.now.store.scene c.in_ok-live_uploads.field-0 c.in-Some.found c.as_slice.result.now
    c.bucket.result.now c.args.self.now c.live_uploads.new.self c.upload_lines.new.self
    e.found c.in-Some.is c.as_slice.ensures c.bucket.ensures e.asked c.in_ok-upload_lines-in-Some.ensures.asked

pub returns-in-None-clause-asked : goal.returns-in-None-clause-asked
returns-in-None-clause-asked c =
    on_ok c.refusing.result (pages_asked lists c.args.path.now c.args.self.now.store.scene _ _ c.in_ok-live_uploads.ensures.asked)

pub returns-in_ok-upload_lines-in-Some-clause-few :
    goal.returns-in_ok-upload_lines-in-Some-clause-few
returns-in_ok-upload_lines-in-Some-clause-few c =
    let e = c.in_ok-live_uploads.ensures in
    uploads_few c.args.path.now c.args.self.now.store.scene c.in_ok-live_uploads.field-0 c.in-Some.found c.as_slice.result.now
    _ _ _ e.found c.in-Some.is c.as_slice.ensures e.few c.in_ok-upload_lines-in-Some.ensures.few

pub returns-in-None-clause-few : goal.returns-in-None-clause-few
returns-in-None-clause-few c =
    on_ok c.refusing.result
    (pages_few (uploads_at c.args.path.now c.args.self.now.store.scene) _ _
    c.in_ok-live_uploads.ensures.few)
