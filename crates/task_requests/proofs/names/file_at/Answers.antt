use Rattle.job_model.specs.Jobs.{Task}
use Rattle.std.proofs.Common.{ap, ◌∙◌}
use Rattle.task_requests.proofs.Placed.{file_found}
use Rattle.task_requests.proofs.names.file_at.Goals as goal

pub returns-clause-is : goal.returns-clause-is
returns-clause-is c = file_found c.args.plan.now c.args.place (λ f. (f.0.now, f.1.now)) c.get_index.result _ c.get_index.ensures.entry
    (c.held.ensures ∙ ap (λ (t : Task). t.files) c.plan.view_is) c.job_of-job.ensures.job c.job_of-job.ensures.task
