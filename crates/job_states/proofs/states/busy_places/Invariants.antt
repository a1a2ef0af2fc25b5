use Rattle.job_states.specs.inner.Stands.{busy_from}
use Rattle.std.proofs.Common.{drop, ◌++◌, ◌≡◌}
use Rattle.job_states.proofs.states.busy_places.Given as goal

abbrev pub invariant-loop-place : goal.invariant-loop-place
invariant-loop-place l = l.places.items ++ busy_from l.place (drop l.place l.standings) ≡ busy_from 0 l.standings
