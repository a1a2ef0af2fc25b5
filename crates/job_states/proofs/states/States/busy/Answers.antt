use Rattle.job_spec.specs.States.{actors}
use Rattle.job_states.proofs.ReportLemmas.{busy_are}
use Rattle.job_states.specs.Standing.{standing}
use Rattle.job_states.specs.Stands.{Kept, Stands}
use Rattle.std.proofs.Common.{List, ap, map, slice_get, subst, sym, ℕ, ◌∙◌}
use Rattle.job_states.proofs.states.States.busy.Goals as goal

pub returns : goal.returns
returns c = λ w p h.
    let k = subst (λ (v : Kept). Stands w v p) (sym c.self.view_is) h in
    ap (λ (l : List ℕ). map (slice_get (actors w)) l) c.in_ok-places.ensures ∙ busy_are (actors w) (standing p) c.deref.result.now
    (c.deref.ensures.value ∙ k.actors)
