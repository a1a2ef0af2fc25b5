use Rattle.judging.proofs.ByTask.{by_task}
use Rattle.judging.proofs.laws.judged_by_task.Goals as goal

pub returns : goal.returns
returns g c = by_task _
