use Rattle.job_model.specs.Files.{File}
use Rattle.std.proofs.Common.{ap, ◌∙◌}
use Rattle.task_requests.proofs.Steps.{file_is}
use Rattle.task_staging.proofs.opening.path_at.Goals as goal

pub returns : goal.returns
returns c = c.in_ok-copy.ensures.cases ∙ ap (λ (f : File). f.0) (file_is c.args.plan.now c.args.place (c.in-Some.path.now, _)
    c.in-Some.ensures.file)
