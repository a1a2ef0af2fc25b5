use Rattle.task_staging.proofs.Written.{asks_none}
use Rattle.task_staging.proofs.write.KeepingTaskStateTheWrite.wear.Goals as goal

pub unreachable-requires : goal.unreachable-requires
unreachable-requires c = asks_none c.args.plan.now c.self.inside.end c.args.self.now c.self.view_is c.requires.asked
