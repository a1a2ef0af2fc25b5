use Rattle.job_commit.proofs.Searches.{first_that_fails, none_fails}
use Rattle.job_model.specs.Jobs.{has_task}
use Rattle.std.proofs.Common.{arith, sym, ◌∙◌, ◌≤◌}
use Rattle.job_commit.proofs.commit.missing.Goals as goal

pub returns-then-not-has : goal.returns-then-not-has
returns-then-not-has c = sym (first_that_fails (has_task c.args.reported.now) c.args.tasks c.loop-task.task c.loop-task-test.true
    c.loop-task.invariant (sym c.has.ensures ∙ c.if-not-has.true))

pub returns : goal.returns
returns c =
    let past : c.args.tasks ≤ c.loop-task.task = c.loop-task-test.false in
    sym (none_fails (has_task c.args.reported.now) c.args.tasks (λ t h. c.loop-task.invariant t (omega arith)))
