use Rattle.std.proofs.Common.{ap, ◌∙◌}
use Rattle.task_staging.proofs.Undone.{start_is}
use Rattle.task_staging.specs.Undoing.{abort_by}
use Rattle.task_staging.proofs.undoing.UndoingTaskStateTheAbort.begin.Goals as goal

pub returns-clause-start : goal.returns-clause-start
returns-clause-start c = ap (abort_by c.args.plan.now.known 0) c.end_at.ensures ∙ start_is c.args.plan.now c.requires
