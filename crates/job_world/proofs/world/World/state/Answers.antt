use Rattle.job_spec.specs.States.{past}
use Rattle.job_world.proofs.KeptWorlds.{state_is}
use Rattle.job_world.specs.Worlds.{Run}
use Rattle.std.proofs.Common.{subst, ◌≡◌}
use Rattle.job_world.proofs.world.World.state.Goals as goal

pub returns : goal.returns
returns g c = subst (λ (r : Run). c.state.result ≡ (past r.script r.ends).state c.args.actor) c.self.view_is
    (state_is g.W.Acts.wants g.W.Works.is_of g.W.Works.running g.W.Works.picks_of c.self.inside.body c.self.invariant
    (λ p. p.state c.args.actor) c.state.result c.state.ensures)
