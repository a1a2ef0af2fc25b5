use Rattle.job_spec.specs.States.{past}
use Rattle.job_world.proofs.KeptWorlds.{state_is}
use Rattle.job_world.specs.Worlds.{Run}
use Rattle.std.proofs.Common.{subst, ◌≡◌}
use Rattle.job_world.proofs.world.World.job_attempt.Goals as goal

pub returns : goal.returns
returns g c = subst (λ (r : Run). c.attempt.result ≡ (past r.script r.ends).attempt) c.self.view_is
    (state_is g.W.Acts.wants g.W.Works.is_of g.W.Works.running g.W.Works.picks_of c.self.inside.body c.self.invariant (λ p. p.attempt)
    c.attempt.result (c.attempt.ensures c.self.inside.body.side.script))
