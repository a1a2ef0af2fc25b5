use Rattle.job_commit.proofs.Steps.{turn_within}
use Rattle.job_commit.proofs.basis.Basis.completing.Goals as goal

pub upload_at-requires-clause-within : goal.upload_at-requires-clause-within
upload_at-requires-clause-within c = turn_within c.args.self.now.sets c.args.lanes c.in-Some.turn c.number.result c.requires.within
    c.in-Some.ensures c.number.ensures
