use Rattle.job_protocol.specs.Conflicts.{partitions}
use Rattle.std.proofs.Common.{ap, true, ◌∙◌, ◌≡◌}
use Rattle.task_requests.proofs.Steps.{ok_as}
use Rattle.task_staging.proofs.Opened.{all_to_check, none_to_check}
use Rattle.task_staging.proofs.opening.to_check.Goals as goal

pub returns-then-not-is_checked : goal.returns-then-not-is_checked
returns-then-not-is_checked c = c.new.ensures ∙ none_to_check c.args.plan.now c.job_of.result.now c.is_checked.result c.job_of.ensures.value
    c.is_checked.ensures c.if-not-is_checked.true

pub returns : goal.returns
returns c =
    let yes : c.is_checked.result ≡ true = let n = c.if-not-is_checked.false in cc in
    ok_as c.partitions.result _ _ c.partitions.ensures (ap partitions (c.as_slice.ensures ∙ c.in_ok-paths.ensures) ∙ all_to_check
    c.args.plan.now c.job_of.result.now c.is_checked.result c.job_of.ensures.value c.is_checked.ensures yes)
