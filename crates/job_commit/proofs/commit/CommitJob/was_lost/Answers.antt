use Rattle.std.proofs.Common.{◌∙◌}
use Rattle.job_commit.proofs.Lost.{lost_seen}
use Rattle.job_commit.proofs.commit.CommitJob.was_lost.Goals as goal

pub returns : goal.returns
returns c = c.lost.ensures ∙ lost_seen c.self.inside.basis.plan c.self.inside.basis.sets c.self.inside.picks c.self.inside.next.step
    c.args.self.now c.self.view_is
