use Rattle.task_staging.proofs.Written.{start_is}
use Rattle.task_staging.proofs.write.KeepingTaskStateTheWrite.begin.Goals as goal

pub returns-clause-start : goal.returns-clause-start
returns-clause-start c = start_is c.args.plan.now c.requires
