use Rattle.std.proofs.Common.{◌∙◌}
use Rattle.job_commit.proofs.Whole.{missed_seen}
use Rattle.job_commit.proofs.commit.CommitJob.missed.Goals as goal

pub returns : goal.returns
returns c = c.missed.ensures ∙ missed_seen c.self.inside.basis.plan c.self.inside.basis.sets c.self.inside.basis.places c.self.inside.picks
    c.self.inside.next c.args.self.now c.self.view_is c.self.invariant
