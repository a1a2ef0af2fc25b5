use Rattle.job_model.specs.Jobs.{Job}
use Rattle.job_protocol.specs.Conflicts.{checks_partitions}
use Rattle.std.proofs.Common.{ap, ◌∙◌}
use Rattle.task_staging.proofs.opening.is_checked.Goals as goal

pub returns : goal.returns
returns c = c.checks_partitions.ensures ∙ ap (λ (j : Job). checks_partitions j.committer j.mode) c.job.view_is
