use Rattle.std.proofs.Common.{◌∙◌}
use Rattle.task_requests.proofs.Steps.{behind_next, sending_within, sent_kept_by, sent_told_by}
use Rattle.task_magic.proofs.stepping.add_part.Goals as goal

pub behind-stage-requires-clause-within : goal.behind-stage-requires-clause-within
behind-stage-requires-clause-within c = sending_within c.args.plan.now c.args.place c.args.sent (c.in-Some.path.now, c.in-Some.bytes.now)
    c.in-Some.ensures.file c.requires.holds

pub ask_behind-requires-clause-within : goal.ask_behind-requires-clause-within
ask_behind-requires-clause-within c = behind_next c.args.plan.now c.args.place c.args.sent (c.in-Some.path.now, c.in-Some.bytes.now) _
    c.behind-stage.ensures.stage c.in-Some.ensures.file c.requires.holds

pub returns-in-Ok-clause-told : goal.returns-in-Ok-clause-told
returns-in-Ok-clause-told c =
    λ b. sent_told_by c.args.plan.now _ c.args.place c.args.sent (c.in-Some.path.now, c.in-Some.bytes.now) c.args.tag
    c.behind-stage.result.1 c.behind-stage.result.0 b
    c.in-Ok.ensures.drawn c.behind-stage.ensures.size c.behind-stage.ensures.stage c.in-Some.ensures.file c.requires.holds

pub returns-in-Ok-clause-kept : goal.returns-in-Ok-clause-kept
returns-in-Ok-clause-kept c =
    sent_kept_by c.args.plan.now _ c.args.dir.now c.args.place c.args.sent (c.in-Some.path.now, c.in-Some.bytes.now) c.args.tag
    c.behind-stage.result.1 c.behind-stage.result.0 c.in-Ok.asked
    c.in-Ok.ensures.drawn c.behind-stage.ensures.size c.behind-stage.ensures.stage c.in-Some.ensures.file c.requires.dir c.requires.holds
    c.requires.plain (c.in-Ok.ensures.asked ∙ c.in_ok-asked.ensures)
