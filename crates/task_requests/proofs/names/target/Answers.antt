use Rattle.job_model.specs.Jobs.{Task}
use Rattle.std.proofs.Common.{ap, ◌∙◌}
use Rattle.task_requests.proofs.Placed.{named_elements, named_short}
use Rattle.task_requests.proofs.names.target.Goals as goal

pub file_key-requires-clause-elements : goal.file_key-requires-clause-elements
file_key-requires-clause-elements c = named_elements c.args.plan.now c.args.path.now c.requires

pub file_key-requires-clause-most : goal.file_key-requires-clause-most
file_key-requires-clause-most c = named_short c.args.plan.now _ c.args.path.now c.requires
    (c.job.view_is ∙ ap (λ (t : Task). t.job) c.plan.view_is)
