use Rattle.job_spec.specs.States.{begin}
use Rattle.job_states.proofs.StandsLemmas.{changes_begin, others_put}
use Rattle.job_states.specs.Standing.{standing}
use Rattle.job_states.specs.Stands.{Kept, Stands}
use Rattle.job_states.specs.inner.Stands.{ChangesAt}
use Rattle.job_states.specs.declared.standing.Standing.{Standing}
use Rattle.std.proofs.Common.{subst, sym, true≢false, ◌∙◌}
use Rattle.job_states.proofs.states.States.begin.Goals as goal

pub returns-clause-stands : goal.returns-clause-stands
returns-clause-stands c = λ p h.
    let w = c.args.script.now in
    let a = c.args.actor in
    let k = subst (λ (v : Kept). Stands w v p) (sym c.self.view_is) h in
    let s = c.standing_of-standing.result in
    let change = changes_begin w p a c.args.op s (c.standing_of-standing.ensures.known (standing p) (c.deref.ensures.value ∙ k.actors)) in
    record {
      events = k.events;
      actors =
          c.put_standing.ensures (standing p) (standing (begin w p a c.args.op)) k.actors
          (subst (λ (x : Standing). ChangesAt w a x (standing p) (standing (begin w p a c.args.op))) (sym c.begun.ensures) change);
      attempt = k.attempt;
      reported = k.reported;
      setup = c.setup_begun-self-inside.ensures p.setup k.setup;
      commit = c.commit_begun-self-inside.ensures p.commit k.commit;
      others = others_put w p a _ k.others (λ u. absurd (true≢false (sym c.requires ∙ u)));
    }
