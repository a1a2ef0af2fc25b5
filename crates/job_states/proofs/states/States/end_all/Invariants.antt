use Rattle.job_spec.specs.States.{Past, end_ops}
use Rattle.job_states.specs.Stands.{Stands}
use Rattle.std.proofs.Common.{drop, ◌≡◌}
use Rattle.job_states.proofs.states.States.end_all.Given as goal

abbrev pub invariant-loop-actor_end : goal.invariant-loop-actor_end
invariant-loop-actor_end l = record {
  stands : (p : Past) → Stands l.script l.fn.self p → (q : Past) × Stands l.script l.self q
      × (end_ops q (drop l.actor_end-index l.ends) ≡ end_ops p l.ends);
  attempt : l.self.attempt ≡ l.fn.self.attempt;
  events : l.self.events ≡ l.fn.self.events;
}
