use Rattle.s3a_shell.proofs.Performing.{sent}
use Rattle.s3a_shell.proofs.Looking.{walked_same}
use Rattle.std.proofs.Common.{◌∙◌}
use Rattle.s3a_shell.proofs.Asking.{walk_asked}
use Rattle.s3a_shell.proofs.Performing.{asked}
use Rattle.s3a_shell.proofs.Few.{walk_few}
use Rattle.s3a_shell.proofs.session.Session.live_uploads.Goals as goal

pub returns-in-Ok-clause-sent : goal.returns-in-Ok-clause-sent
returns-in-Ok-clause-sent c = sent _ _ _ _ _ c.requires c.in-Ok.ensures.performed

pub returns-in-Ok-clause-looks : goal.returns-in-Ok-clause-looks
returns-in-Ok-clause-looks c =
    let done = c.in-Ok.ensures.performed in
    walked_same _ _ _ _ done.part done.appended done.sent

pub returns-in-Ok-clause-asked : goal.returns-in-Ok-clause-asked
returns-in-Ok-clause-asked c =
    walk_asked _ _ _ _ _ _ (c.in_ok-bucket.ensures.cases ∙ c.bucket.ensures) c.in_ok-prefix.ensures
    (asked _ _ _ _ _ c.in-Ok.ensures.performed)

pub returns-in-Ok-clause-few : goal.returns-in-Ok-clause-few
returns-in-Ok-clause-few c =
    let done = c.in-Ok.ensures.performed in
    walk_few c.args.path.now c.args.self.now.store.scene _ _ _ _ (c.in_ok-bucket.ensures.cases ∙ c.bucket.ensures) c.in_ok-prefix.ensures
    c.in-Ok.ensures.few done.part done.appended
