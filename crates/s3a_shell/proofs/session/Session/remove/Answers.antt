use Rattle.fs_ops.specs.code.Delete.{Deletion}
use Rattle.s3a_shell.proofs.Asking.{deletion_asked, deletion_sent}
use Rattle.s3a_shell.proofs.Few.{delete_left, few_at}
use Rattle.s3a_shell.proofs.Performing.{deleted_at, on_ok}
use Rattle.s3a_shell.specs.Most.{count_below}
use Rattle.std.proofs.Common.{◌*◌, ◌+◌}
use Rattle.fs_ops.specs.code.Delete as delete
use Rattle.s3a_shell.proofs.session.Session.remove.Goals as goal

pub returns-clause-did : goal.returns-clause-did
returns-clause-did c = deleted_at c.args.path.now c.args.recursive _ _ _ c.in_ok-answer.answer c.nothing_said.result
    c.in_ok-deletion.ensures.deletion c.in_ok-deletion.ensures.key c.in_ok-answer.ensures.given c.nothing_said.ensures

pub returns-clause-sent : goal.returns-clause-sent
returns-clause-sent c =
    on_ok c.nothing_said.result
    (deletion_sent c.args.path.now c.args.recursive _ _ _ c.in_ok-deletion.ensures.deletion c.in_ok-deletion.ensures.key
    c.in_ok-answer.ensures.sent)

pub returns-clause-asked : goal.returns-clause-asked
returns-clause-asked c =
    on_ok c.nothing_said.result
    (deletion_asked c.args.path.now c.args.recursive _ _ _ c.in_ok-deletion.ensures.deletion c.in_ok-deletion.ensures.key
    c.in_ok-answer.ensures.asked)

pub returns-clause-few : goal.returns-clause-few
returns-clause-few c = on_ok c.nothing_said.result
    (few_at delete.left delete.first (λ (o : Deletion) m. 6 + 2 * count_below o.path m) c.args.path.now.bucket c.args.self.now.store.scene
    _ _ _ _
    (delete_left c.in_ok-deletion.deletion) c.in_ok-deletion.ensures.deletion c.in_ok-answer.ensures.few)
