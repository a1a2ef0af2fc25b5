use Rattle.job_gen.proofs.Ranges.{left_out, taken_on}
use Rattle.job_gen.proofs.events.push_seconds.Goals.{else-is_twice, then-is_twice+in_ok-push_second}
use Rattle.job_gen.specs.Made.{is_twice, second_writes}
use Rattle.std.proofs.Common.{sym, ◌∙◌}
use Rattle.job_gen.proofs.events.push_seconds.Goals as goal

pub loop-task-preserved : goal.loop-task-preserved
loop-task-preserved c = elim c.if-is_twice.branch [
  | then-is_twice+in_ok-push_second w ↦ taken_on is_twice second_writes c.loop-task.task c.args.events.now c.loop-task.events
      c.if-is_twice.events (sym c.is_twice.ensures ∙ w.if-is_twice.true) c.loop-task.invariant (w.events-is ∙ w.in_ok-push_second.ensures)
  | else-is_twice w ↦ w.events-is ∙ left_out is_twice second_writes c.loop-task.task c.args.events.now c.loop-task.events
      (sym c.is_twice.ensures ∙ w.if-is_twice.false) c.loop-task.invariant
]
