use Rattle.fs_ops.proofs.ListLaws.{first_looks}
use Rattle.fs_tree.specs.Answers.{Lists}
use Rattle.s3a_shell.proofs.Asking.{looked}
use Rattle.s3a_shell.proofs.Few.{few_at, list_left}
use Rattle.s3a_shell.proofs.Looking.{looked_same}
use Rattle.s3a_shell.proofs.Performing.{did_at, on_ok, sent_still}
use Rattle.s3a_shell.specs.Most.{children_below}
use Rattle.s3a_shell.specs.Texts.{entry_lines}
use Rattle.std.proofs.Common.{◌+◌}
use Rattle.fs_ops.specs.code.List as list
use Rattle.s3a_shell.proofs.session.Session.ls.Goals as goal

pub returns-clause-did : goal.returns-clause-did
returns-clause-did c = did_at c.args.path.now Lists entry_lines _ _ _ c.in_ok-answer.answer c.list_said.result c.in_ok-dir.ensures
    c.in_ok-answer.ensures.given c.list_said.ensures

pub returns-clause-sent : goal.returns-clause-sent
returns-clause-sent c = on_ok c.list_said.result (sent_still c.args.path.now.bucket _ _ c.in_ok-answer.ensures.sent)

pub returns-clause-looks : goal.returns-clause-looks
returns-clause-looks c = on_ok c.list_said.result (looked_same c.args.path.now.bucket _ c.args.self.now.store.scene c.args.self.now
    c.perform_at.new.self (first_looks c.in_ok-dir.dir) c.in_ok-answer.ensures.asked)

pub returns-clause-asked : goal.returns-clause-asked
returns-clause-asked c = on_ok c.list_said.result
    (looked c.args.path.now.bucket _ c.args.self.now.store.scene c.args.self.now c.perform_at.new.self (first_looks c.in_ok-dir.dir)
    c.in_ok-answer.ensures.asked)

pub returns-clause-few : goal.returns-clause-few
returns-clause-few c = on_ok c.list_said.result
    (few_at list.left list.first (λ k m. 2 + children_below k m) c.args.path.now.bucket c.args.self.now.store.scene _ _ _ _
    (list_left c.in_ok-dir.dir) c.in_ok-dir.ensures c.in_ok-answer.ensures.few)
