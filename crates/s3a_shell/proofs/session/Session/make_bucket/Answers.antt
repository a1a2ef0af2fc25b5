use Rattle.s3a_shell.proofs.Performing.{made_if}
use Rattle.s3a_shell.proofs.session.Session.make_bucket.Goals as goal

pub returns-clause-did : goal.returns-clause-did
returns-clause-did c = made_if c.args.name.now _ _ _ c.making_said.result c.making_said.ensures c.in_ok-why.ensures.word
    c.in_ok-why.ensures.scene
