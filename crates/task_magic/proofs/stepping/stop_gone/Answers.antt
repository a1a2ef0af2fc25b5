use Rattle.std.proofs.Common.{◌∙◌}
use Rattle.task_requests.proofs.Steps.{gone_told_by}
use Rattle.task_magic.proofs.stepping.stop_gone.Goals as goal

pub returns-clause-told : goal.returns-clause-told
returns-clause-told c = λ b. gone_told_by c.args.plan.now c.args.place c.args.sent (c.in-Some.path.now, _) _ b
    (c.in_ok-name.ensures ∙ c.in_ok-key.ensures) c.in-Some.ensures.file c.requires.holds
