use Rattle.job_spec.specs.States.{kill}
use Rattle.job_states.proofs.StandsLemmas.{changes_kill, others_put}
use Rattle.job_states.specs.Standing.{standing}
use Rattle.job_states.specs.Stands.{Kept, Stands}
use Rattle.job_states.specs.inner.Stands.{ChangesAt}
use Rattle.job_states.specs.declared.standing.Standing.{Standing}
use Rattle.std.proofs.Common.{subst, sym, ◌∙◌}
use Rattle.job_states.proofs.states.States.kill.Goals as goal

pub returns-clause-stands : goal.returns-clause-stands
returns-clause-stands c = λ p h.
    let w = c.args.script.now in
    let a = c.args.actor in
    let k = subst (λ (v : Kept). Stands w v p) (sym c.self.view_is) h in
    let s = c.standing_of-standing.result in
    let change = changes_kill w p a s (c.standing_of-standing.ensures.known (standing p) (c.deref.ensures.value ∙ k.actors)) in record {
      events = k.events;
      actors = c.put_standing.ensures (standing p) (standing (kill p a)) k.actors
          (subst (λ (x : Standing). ChangesAt w a x (standing p) (standing (kill p a))) (sym c.killed.ensures) change);
      attempt = k.attempt;
      reported = k.reported;
      setup = k.setup;
      commit = k.commit;
      others = others_put w p a _ k.others (k.others a);
    }
