use Rattle.job_gen.specs.Made.{start_write}
use Rattle.job_gen.proofs.Ranges.{mapped_on}
use Rattle.job_gen.proofs.events.push_writes.Goals as goal

pub loop-task-preserved : goal.loop-task-preserved
loop-task-preserved c = mapped_on start_write c.loop-task.task c.args.events.now c.loop-task.events c.push.new.self c.loop-task.invariant
    c.in_ok-push.ensures.ok
