use Rattle.job_protocol.specs.AtWork.{task_script, who_of}
use Rattle.job_protocol.specs.TaskCommits.{to_check}
use Rattle.std.proofs.Common.{IfOk, List, subst, ℕ, ◌∙◌, ◌≡◌}
use Rattle.task_staging.proofs.Staged.{start_is}
use Rattle.task_staging.proofs.staging.StagingTaskStateTheCommit.begin.Goals as goal

pub returns-clause-start : goal.returns-clause-start
returns-clause-start c =
    let t = c.args.plan.now in
    start_is t c.new-2.result c.requires (c.new-2.ensures ∙ subst (λ r. IfOk r
    (λ (d : List (List ℕ)). d ≡ to_check (task_script t) (who_of t))) c.in_ok-partitions.ensures.one c.to_check.ensures)
