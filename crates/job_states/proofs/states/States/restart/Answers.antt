use Rattle.job_spec.specs.States.{actors, is_reported}
use Rattle.job_states.proofs.ReportLemmas.{whole}
use Rattle.job_states.proofs.StandsLemmas.{changes_restart, others_put, renew}
use Rattle.job_states.proofs.ToldLemmas.{map_twice, none_reported}
use Rattle.job_states.specs.Standing.{standing}
use Rattle.job_states.specs.inner.Standing.{unreported_in}
use Rattle.job_states.specs.Stands.{Kept, Stands}
use Rattle.job_states.specs.inner.Stands.{ChangesAt}
use Rattle.job_states.specs.declared.standing.Standing.{Standing}
use Rattle.s3_types.specs.declared.request.Actor.TheVariants.{Driver}
use Rattle.std.proofs.Common.{ap, arith, drop, length, map, subst, sym, true≢false, ◌+◌, ◌∙◌, ◌≡◌}
use Rattle.job_states.proofs.states.States.restart.Goals as goal

pub returns-clause-stands : goal.returns-clause-stands
returns-clause-stands c = λ p h.
    let w = c.args.script.now in
    let k = subst (λ (v : Kept). Stands w v p) (sym c.self.view_is) h in
    let items = c.put_standing.new.standings.items in
    let told = c.unreport.new.standings in
    let many : c.put_standing.new.standings.len ≡ length told = omega arith in
    let s = c.standing_of-standing.result in
    let change = changes_restart w p s (c.standing_of-standing.ensures.known (standing p) (c.deref.ensures.value ∙ k.actors)) in record {
      events = k.events;
      actors =
          whole c.put_standing.new.standings.len told (drop (length told) items) many ∙ c.unreport.ensures ∙ ap (map unreported_in)
          c.deref_mut.ensures.value
          ∙ ap (map unreported_in) (c.put_standing.ensures (standing p) (standing (renew p)) k.actors
          (subst (λ (x : Standing). ChangesAt w Driver x (standing p) (standing (renew p))) (sym c.renewed.ensures) change))
          ∙ map_twice unreported_in (standing (renew p)) (actors w);
      attempt = ap (λ n. n + 1) k.attempt;
      reported = c.forget.ensures w.tasks (is_reported w p.reported) k.reported ∙ sym (none_reported w);
      setup = k.setup;
      commit = k.commit;
      others = others_put w p Driver _ k.others (λ u. absurd (true≢false u));
    }
