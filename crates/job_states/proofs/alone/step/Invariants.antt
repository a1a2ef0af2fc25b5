use Rattle.job_states.specs.Turning.{Going}
use Rattle.std.proofs.Common.{length, ◌-◌, ◌≡◌, ◌≤◌}
use Rattle.job_states.proofs.alone.step.Given as goal

abbrev pub invariant-turns : goal.invariant-turns
invariant-turns g l = g.A.Actors.holds l.actors × g.A.Actors.keeps l.fn.actors l.actors
    × ((v : Going l.place (g.A.Actors.table l.fn.actors) (g.A.Actors.table l.actors)) × (length v.part ≡ l.sent)) × (l.sent ≤ l.count)

abbrev pub decreases-turns : goal.decreases-turns
decreases-turns g l = l.count - l.sent
