use Rattle.fs_ops.proofs.AtPathLaws.{gets_there}
use Rattle.fs_tree.specs.Answers.{Reads}
use Rattle.s3a_shell.proofs.Asking.{looked}
use Rattle.s3a_shell.proofs.Few.{few_at, path_left}
use Rattle.s3a_shell.proofs.Looking.{looked_same}
use Rattle.s3a_shell.proofs.Performing.{did_at, on_ok, sent_still}
use Rattle.s3a_shell.specs.Texts.{bytes_alone}
use Rattle.fs_ops.specs.code.AtPath as at_path
use Rattle.s3a_shell.proofs.session.Session.cat.Goals as goal

pub returns-clause-did : goal.returns-clause-did
returns-clause-did c = did_at c.args.path.now Reads bytes_alone _ _ _ c.in_ok-answer.answer c.bytes_said.result c.in_ok-file.ensures
    c.in_ok-answer.ensures.given c.bytes_said.ensures

pub returns-clause-sent : goal.returns-clause-sent
returns-clause-sent c = on_ok c.bytes_said.result (sent_still c.args.path.now.bucket _ _ c.in_ok-answer.ensures.sent)

pub returns-clause-looks : goal.returns-clause-looks
returns-clause-looks c = on_ok c.bytes_said.result (looked_same c.args.path.now.bucket _ c.args.self.now.store.scene c.args.self.now
    c.perform_at.new.self (gets_there c.in_ok-file.file) c.in_ok-answer.ensures.asked)

pub returns-clause-asked : goal.returns-clause-asked
returns-clause-asked c = on_ok c.bytes_said.result
    (looked c.args.path.now.bucket _ c.args.self.now.store.scene c.args.self.now c.perform_at.new.self (gets_there c.in_ok-file.file)
    c.in_ok-answer.ensures.asked)

pub returns-clause-few : goal.returns-clause-few
returns-clause-few c = on_ok c.bytes_said.result
    (few_at at_path.left at_path.first (λ k m. 2) c.args.path.now.bucket c.args.self.now.store.scene _ _ _ _
    (path_left c.in_ok-file.file) c.in_ok-file.ensures c.in_ok-answer.ensures.few)
