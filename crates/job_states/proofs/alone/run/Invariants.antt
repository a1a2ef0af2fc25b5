use Rattle.job_states.specs.Turning.{Going}
use Rattle.job_states.proofs.alone.run.Given as goal

abbrev pub invariant-turns : goal.invariant-turns
invariant-turns g l = g.A.Actors.holds l.actors × g.A.Actors.keeps l.fn.actors l.actors
    × Going l.place (g.A.Actors.table l.fn.actors) (g.A.Actors.table l.actors)

abbrev pub decreases-turns : goal.decreases-turns
decreases-turns g l = (g.A.Actors.table l.actors).left
