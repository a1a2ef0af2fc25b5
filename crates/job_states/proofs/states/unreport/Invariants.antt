use Rattle.job_states.specs.inner.Standing.{unreported_in}
use Rattle.std.proofs.Common.{drop, map, take, ◌++◌, ◌≡◌}
use Rattle.job_states.proofs.states.unreport.Given as goal

abbrev pub invariant-loop-standing : goal.invariant-loop-standing
invariant-loop-standing l = l.standings ≡ map unreported_in (take l.standing-index l.fn.standings) ++ drop l.standing-index l.fn.standings
