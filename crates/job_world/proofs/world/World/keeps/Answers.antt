use Rattle.job_world.proofs.KeptWorlds.{keeps}
use Rattle.job_world.specs.Worlds.{Keeps}
use Rattle.std.proofs.Common.{subst}
use Rattle.job_world.proofs.world.World.keeps.Goals as goal

pub returns : goal.returns
returns g c = subst Keeps c.self.view_is (keeps g.W.Acts.wants g.W.Works.is_of g.W.Works.running g.W.Works.picks_of c.self.inside.body
    c.self.invariant c.laws.ensures.has_picks c.self.inside.stuck)
