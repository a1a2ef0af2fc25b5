use Rattle.std.proofs.Common.{◌∙◌, ◌≤◌, Bool, List, length, subst, arith}
use Rattle.job_states.proofs.ReportLemmas.{told_there, told_nowhere}
use Rattle.job_states.proofs.reports.Reports.tell.Goals as goal

pub returns-then-task-len : goal.returns-then-task-len
returns-then-task-len c = λ tasks f is. told_there c.self.inside.told.items tasks c.args.task f (c.self.view_is ∙ is) (omega arith)

pub returns-else-task-len : goal.returns-else-task-len
returns-else-task-len c = λ tasks f is. told_nowhere c.args.self.now tasks c.args.task f is
    (subst (λ (l : List Bool). length l ≤ c.args.task) c.self.view_is (omega arith))
