use Rattle.job_spec.specs.States.{verdict_or}
use Rattle.twin_jobs.proofs.Turning.{past_is}
use Rattle.twin_jobs.proofs.world.TwinWorld.verdict.Goals as goal

pub returns : goal.returns
returns g c =
    rw (← c.self.view_is)
    (past_is g.W.Works.picks_of g.W.Acts.wants g.W.Works.is_of g.W.Works.running c.self.inside.pair c.self.inside.stuck c.args.side
    c.side.result.now c.side.ensures
    c.self.invariant (λ p. verdict_or (verdict_or 1 p.setup) p.commit) c.verdict.result (c.verdict.ensures c.side.result.now.script))
