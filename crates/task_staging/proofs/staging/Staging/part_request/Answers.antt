use Rattle.s3_types.specs.declared.request.Request.{Request}
use Rattle.std.proofs.Common.{Some, ap, ◌∙◌}
use Rattle.task_staging.proofs.Staged.{asks_part, holds_open, is_sent, part_behind_is, sent_here}
use Rattle.task_staging.proofs.staging.Staging.part_request.Goals as goal

pub part_request-requires-clause-within : goal.part_request-requires-clause-within
part_request-requires-clause-within c = (sent_here c.args.plan.now c.args.self.now c.args.sent c.requires.end c.requires.keeps
    c.requires.stage).within

pub part_request-requires-clause-behind : goal.part_request-requires-clause-behind
part_request-requires-clause-behind c = part_behind_is (sent_here c.args.plan.now c.args.self.now c.args.sent c.requires.end
    c.requires.keeps c.requires.stage)

pub returns-in-Ok : goal.returns-in-Ok
returns-in-Ok c =
    let t = c.args.plan.now in
    let h = c.args.self.now in
    ap (λ (r : Request). Some r) c.in-Ok.ensures ∙ asks_part t h.stage h.checks h.place c.args.sent h.end c.requires.end c.requires.stage
    (is_sent t h.stage h.checks h.place c.args.sent (holds_open t h c.requires.end c.requires.keeps).at c.requires.stage)
