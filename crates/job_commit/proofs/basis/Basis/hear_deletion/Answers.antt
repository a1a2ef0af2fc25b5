use Rattle.job_commit.proofs.Steps.{spared_still}
use Rattle.job_commit.proofs.basis.Basis.hear_deletion.Goals as goal

pub deleting-requires-clause-spared : goal.deleting-requires-clause-spared
deleting-requires-clause-spared c = spared_still c.args.deletion c.hear.new.self c.args.reply.now _ c.in-Ok.ensures c.requires.spared
