use Rattle.job_spec.specs.States.{is_reported}
use Rattle.job_states.proofs.ReportLemmas.{misses_same, test_at}
use Rattle.job_states.specs.Stands.{Kept, Stands}
use Rattle.std.proofs.Common.{subst, sym, ◌∙◌}
use Rattle.job_states.proofs.states.States.reported.Goals as goal

pub returns-clause-exact : goal.returns-clause-exact
returns-clause-exact c = λ w p h t.
    let k = subst (λ (v : Kept). Stands w v p) (sym c.self.view_is) h in
    c.in_ok-tasks.ensures t ∙ test_at c.self.inside.reports w.tasks (is_reported w p.reported) t k.reported

pub returns-clause-missing : goal.returns-clause-missing
returns-clause-missing c = λ w p h.
    let k = subst (λ (v : Kept). Stands w v p) (sym c.self.view_is) h in
    misses_same c.in_ok-tasks.tasks (is_reported w p.reported) w.tasks (λ t. c.in_ok-tasks.ensures t ∙ test_at c.self.inside.reports w.tasks
    (is_reported w p.reported) t k.reported)
