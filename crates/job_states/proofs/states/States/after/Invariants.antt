use Rattle.job_spec.specs.States.{Past, nothing_past, past_from}
use Rattle.job_states.specs.Stands.{Stands}
use Rattle.std.proofs.Common.{drop, ◌+◌, ◌≡◌, ◌≤◌}
use Rattle.job_states.proofs.states.States.after.Given as goal

abbrev pub invariant-loop-index : goal.invariant-loop-index
invariant-loop-index l = record {
  stands : (p : Past) × Stands l.script l.states p
      × (past_from l.script p (drop l.index l.events) (drop l.index l.ends) ≡ past_from l.script nothing_past l.events l.ends);
  attempt : l.states.attempt ≤ l.index + 1;
  events : l.states.events ≡ l.index;
}
