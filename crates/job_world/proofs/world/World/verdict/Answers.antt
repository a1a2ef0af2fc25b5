use Rattle.job_spec.specs.States.{verdict, verdict_or}
use Rattle.job_world.proofs.KeptWorlds.{state_is}
use Rattle.job_world.specs.Worlds.{Run}
use Rattle.std.proofs.Common.{subst, ◌≡◌}
use Rattle.job_world.proofs.world.World.verdict.Goals as goal

pub returns : goal.returns
returns g c = subst (λ (r : Run). c.verdict.result ≡ verdict r.script r.ends) c.self.view_is
    (state_is g.W.Acts.wants g.W.Works.is_of g.W.Works.running g.W.Works.picks_of c.self.inside.body c.self.invariant
    (λ p. verdict_or (verdict_or 1 p.setup) p.commit) c.verdict.result (c.verdict.ensures c.self.inside.body.side.script))
