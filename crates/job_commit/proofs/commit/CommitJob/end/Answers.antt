use Rattle.job_commit.proofs.Whole.{not_over_seen}
use Rattle.job_commit.proofs.commit.CommitJob.end.Goals as goal

pub returns-in_default : goal.returns-in_default
returns-in_default c = not_over_seen c.self.inside.basis.plan c.self.inside.basis.sets c.self.inside.basis.places c.self.inside.picks
    c.self.inside.next c.args.self.now c.self.view_is c.self.invariant c.in_default.not-Over
