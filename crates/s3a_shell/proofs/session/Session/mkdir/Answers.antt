use Rattle.dir_markers.specs.Markers.{keys_above}
use Rattle.fs_ops.specs.Places.{look_asks}
use Rattle.fs_tree.specs.Answers.{Makes}
use Rattle.s3a_shell.proofs.Asking.{asked_of}
use Rattle.s3a_shell.proofs.Few.{few_at, make_left}
use Rattle.s3a_shell.proofs.Performing.{did_at, on_ok, sent_of}
use Rattle.s3a_shell.specs.Texts.{nothing}
use Rattle.std.proofs.Common.{length, ◌+◌}
use Rattle.fs_ops.specs.code.Make as make
use Rattle.s3a_shell.proofs.session.Session.mkdir.Goals as goal

pub returns-clause-did : goal.returns-clause-did
returns-clause-did c = did_at c.args.path.now Makes nothing _ _ _ c.in_ok-answer.answer c.nothing_said.result c.in_ok-dirs.ensures
    c.in_ok-answer.ensures.given c.nothing_said.ensures

pub returns-clause-sent : goal.returns-clause-sent
returns-clause-sent c = on_ok c.nothing_said.result (sent_of c.args.path.now.bucket make.always _ _ _ _ c.in_ok-dirs.ensures
    c.in_ok-answer.ensures.sent)

pub returns-clause-asked : goal.returns-clause-asked
returns-clause-asked c = on_ok c.nothing_said.result
    (asked_of c.args.path.now.bucket look_asks make.sends c.args.self.now.store.scene _ _ _ _ c.in_ok-dirs.ensures
    c.in_ok-answer.ensures.asked)

pub returns-clause-few : goal.returns-clause-few
returns-clause-few c = on_ok c.nothing_said.result
    (few_at make.left make.first (λ k m. 3 + length (keys_above k)) c.args.path.now.bucket c.args.self.now.store.scene _ _ _ _
    (make_left c.in_ok-dirs.dirs) c.in_ok-dirs.ensures c.in_ok-answer.ensures.few)
