use Rattle.std.proofs.Common.{rules}
use Rattle.job_operations.proofs.Beginnings.{begins_commit_task, task_begun}
use Rattle.job_operations.proofs.begun.begin_commit_task.Goals as goal

pub returns-in-Ok-clause-begins : goal.returns-in-Ok-clause-begins
returns-in-Ok-clause-begins c = task_begun (begins_commit_task c.args.plan) (search rules)
