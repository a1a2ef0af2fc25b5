use Rattle.task_staging.proofs.Staged.{asks_none}
use Rattle.task_staging.proofs.staging.StagingTaskStateTheCommit.ask.Goals as goal

pub returns-in_default : goal.returns-in_default
returns-in_default c = let h = c.args.self.now in asks_none c.args.plan.now h.stage h.checks h.place h.end _ c.in_default.is
