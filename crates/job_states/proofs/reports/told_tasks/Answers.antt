use Rattle.job_model.specs.Jobs.{has_task}
use Rattle.job_states.proofs.ReportLemmas.{all_told, grown}
use Rattle.std.proofs.Common.{false, get_or, slice_get, unwrap_or, ◌∙◌}
use Rattle.std.proofs.lemmas.Option.{unwrap_or-slice_get}
use Rattle.job_states.proofs.reports.told_tasks.Goals as goal

pub loop-task-preserved : goal.loop-task-preserved
loop-task-preserved c = λ t.
    let told = c.args.told.now in
    let n = c.loop-task.task in
    let step = c.in_ok-add_told.ensures t in
    grown (λ q. unwrap_or (slice_get told q) false) n t (get_or told n false) (has_task c.add_told.new.set t) (has_task c.loop-task.set t)
    (unwrap_or-slice_get told n false) step (c.loop-task.invariant t)

pub returns : goal.returns
returns c = λ t. c.loop-task.invariant t ∙ all_told c.args.told.now c.loop-task.task t c.loop-task-test.false
