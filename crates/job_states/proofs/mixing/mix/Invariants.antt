use Rattle.job_states.specs.inner.Mixes.{Mixes}
use Rattle.job_states.proofs.mixing.mix.Given as goal

abbrev pub invariant-mixing : goal.invariant-mixing
invariant-mixing g l = g.A.Actors.holds l.actors × g.A.Actors.keeps l.fn.actors l.actors
    × Mixes l.seed l.fn.busy.items l.busy.items l.drawn (g.A.Actors.table l.fn.actors) (g.A.Actors.table l.actors)

abbrev pub decreases-mixing : goal.decreases-mixing
decreases-mixing g l = (g.A.Actors.table l.actors).left
