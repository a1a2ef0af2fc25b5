use Rattle.job_model.specs.Jobs.{has_task}
use Rattle.job_states.proofs.ReportLemmas.{added_task}
use Rattle.std.proofs.Common.{List, ap, nat_eq, sym, ℕ, ◌&&◌, ◌||◌, ◌∙◌}
use Rattle.job_states.proofs.reports.add_told.Goals as goal

pub returns-in_ok-add : goal.returns-in_ok-add
returns-in_ok-add c = λ t.
    let before = c.args.set.now in
    ap (λ (s : List ℕ). has_task s t) c.in_ok-add.ensures.ok ∙ added_task before c.args.task t ∙ ap
    (λ b. (b && nat_eq t c.args.task) || has_task before t) (sym c.if-is_told.true)
