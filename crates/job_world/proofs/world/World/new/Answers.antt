use Rattle.job_world.proofs.KeptWorlds.{seen}
use Rattle.job_world.proofs.world.World.new.Goals as goal

pub returns : goal.returns
returns g c = seen g.W.Works.picks_of _ _ _ c.in_ok-body.ensures.script c.in_ok-body.ensures.opening c.in_ok-body.ensures.side
    c.in_ok-body.ensures.shared
