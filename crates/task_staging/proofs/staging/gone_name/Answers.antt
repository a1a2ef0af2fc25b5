use Rattle.job_model.specs.Files.{File}
use Rattle.job_protocol.specs.AtWork.{task_script}
use Rattle.job_protocol.specs.Records.{file_key}
use Rattle.std.proofs.Common.{ap, ◌∙◌}
use Rattle.task_requests.proofs.Steps.{file_is}
use Rattle.task_staging.proofs.staging.gone_name.Goals as goal

pub returns : goal.returns
returns c =
    let t = c.args.plan.now in
    c.in_ok-name.ensures.cases ∙ (c.as_text.ensures.text ∙ (c.in_ok-key.ensures ∙ ap (λ (f : File). file_key (task_script t) f)
    (file_is t c.args.place (c.in-Some.path.now, _) c.in-Some.ensures.file)))
