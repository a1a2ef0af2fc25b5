use Rattle.job_gen.proofs.Ranges.{mapped_on}
use Rattle.job_gen.specs.Made.{start_commit}
use Rattle.job_model.specs.declared.events.Event.TheVariants.{Start}
use Rattle.job_model.specs.declared.events.Op.TheVariants.{Commit}
use Rattle.std.proofs.Common.{ap, [], ◌++◌, ◌∙◌, ◌∷◌}
use Rattle.job_gen.proofs.events.push_commits.Goals as goal

pub loop-task-preserved : goal.loop-task-preserved
loop-task-preserved c =
    mapped_on start_commit c.loop-task.task c.args.events.now c.loop-task.events c.push.new.self c.loop-task.invariant
    (c.in_ok-push.ensures.ok ∙ ap (λ a. c.loop-task.events ++ Start a Commit ∷ []) c.committer_of-actor.ensures)
