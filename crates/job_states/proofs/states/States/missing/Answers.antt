use Rattle.job_spec.specs.States.{is_reported}
use Rattle.job_states.proofs.ReportLemmas.{missing_is}
use Rattle.job_states.specs.Stands.{Kept, Stands}
use Rattle.std.proofs.Common.{subst, sym, ◌∙◌}
use Rattle.job_states.proofs.states.States.missing.Goals as goal

pub returns : goal.returns
returns c = λ w p h.
    let k = subst (λ (v : Kept). Stands w v p) (sym c.self.view_is) h in
    c.missing.ensures ∙ missing_is c.self.inside.reports w.tasks (is_reported w p.reported) k.reported
