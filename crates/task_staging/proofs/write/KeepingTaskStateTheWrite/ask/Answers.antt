use Rattle.job_protocol.specs.AtWork.{write_wants}
use Rattle.std.proofs.Common.{ap}
use Rattle.task_operation.specs.Tasks.{at}
use Rattle.job_protocol.specs.Writes as writes
use Rattle.task_staging.proofs.write.KeepingTaskStateTheWrite.ask.Goals as goal

pub returns : goal.returns
returns c = ap (λ (o : writes.Write). write_wants (at c.args.plan.now o)) c.self.view_is
