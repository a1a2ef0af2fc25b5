use Rattle.twin_jobs.proofs.Turning.{next_is}
use Rattle.twin_jobs.proofs.world.TwinWorld.next.Goals as goal

pub returns : goal.returns
returns g c =
    rw (← c.self.view_is)
    (next_is g.W.Works.picks_of g.W.Acts.wants g.W.Works.is_of g.W.Works.running c.self.inside.pair c.self.inside.stuck c.next.result
    c.self.invariant c.next.ensures)
