use Rattle.task_staging.proofs.Staged.{sent_here, stage_more, stage_last}
use Rattle.task_staging.proofs.staging.Staging.add_part.Goals as goal

pub behind_at-stage-requires-clause-within : goal.behind_at-stage-requires-clause-within
behind_at-stage-requires-clause-within c = (sent_here c.args.plan.now c.args.self.now c.args.sent c.requires.at.end c.requires.at.keeps
    c.requires.at.stage).within

pub behind_at-stage-requires-clause-sent : goal.behind_at-stage-requires-clause-sent
behind_at-stage-requires-clause-sent c = (sent_here c.args.plan.now c.args.self.now c.args.sent c.requires.at.end c.requires.at.keeps
    c.requires.at.stage).more

pub send_next-requires-clause-more : goal.send_next-requires-clause-more
send_next-requires-clause-more c = stage_more c.args.sent _ _ _ c.behind_at-stage.ensures.stage c.in-Sending.is

pub close-requires-clause-last : goal.close-requires-clause-last
close-requires-clause-last c = stage_last c.args.sent _ _ c.behind_at-stage.ensures.stage c.in_default.not-Sending
