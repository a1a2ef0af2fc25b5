use Rattle.task_operation.proofs.AbortFalls.{abort_falls}
use Rattle.task_operation.proofs.laws.aborts_end.Goals as goal

pub returns : goal.returns
returns c = record { falls = abort_falls }
