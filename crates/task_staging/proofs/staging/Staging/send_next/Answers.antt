use Rattle.s3_types.proofs.Blocks.{few_parts}
use Rattle.std.proofs.Common.{arith, refl, ◌∙◌}
use Rattle.task_staging.proofs.Staged.{file_at, holds_open, keeps_open, next_behind, send_holds, send_next, send_told, sent_here}
use Rattle.task_staging.proofs.staging.Staging.send_next.Goals as goal

pub overflow_add-sent : goal.overflow_add-sent
overflow_add-sent c =
    let t = c.args.plan.now in
    omega (arith, few_parts t.block t.minimum (file_at t c.args.self.now.place).1, c.requires.more)

pub part_request-requires-clause-within : goal.part_request-requires-clause-within
part_request-requires-clause-within c = (sent_here c.args.plan.now c.args.self.now c.args.sent c.requires.at.end c.requires.at.keeps
    c.requires.at.stage).within

pub part_request-requires-clause-behind : goal.part_request-requires-clause-behind
part_request-requires-clause-behind c =
    let t = c.args.plan.now in
    let h = c.args.self.now in
    next_behind t h.stage h.checks h.place c.args.sent h.end c.requires.at.end c.requires.at.stage
    (holds_open t h c.requires.at.end c.requires.at.keeps).at c.args.part.now.tag c.args.part.now.size c.requires.part.size
    c.requires.part.plain _ refl c.requires.more

pub returns-in-Ok : goal.returns-in-Ok
returns-in-Ok c =
    let t = c.args.plan.now in
    let h = c.args.self.now in
    let k = holds_open t h c.requires.at.end c.requires.at.keeps in
    record {
      keeps = keeps_open _ _ c.requires.at.end (send_holds t h.stage h.checks h.place c.args.sent h.end c.requires.at.end
          c.requires.at.stage k.at c.args.part.now.tag c.args.part.now.size c.requires.part.size c.requires.part.plain _
          c.in-Ok.ensures.drawn c.requires.more h.set c.job_of.ensures.task k.set);
      told = λ b. send_told t h.stage h.checks h.place c.args.sent h.end c.requires.at.end c.requires.at.stage
          (holds_open t h c.requires.at.end c.requires.at.keeps).at c.args.part.now.tag c.args.part.now.size c.requires.part.size
          c.requires.part.plain _ c.in-Ok.ensures.drawn c.requires.more b;
      next = send_next t h.stage h.checks h.place c.args.sent h.end c.requires.at.end c.requires.at.stage
          (holds_open t h c.requires.at.end c.requires.at.keeps).at c.args.part.now.tag c.args.part.now.size c.requires.part.size
          c.requires.part.plain _ c.in-Ok.ensures.drawn c.requires.more c.in-Ok.asked (c.in-Ok.ensures.asked ∙ c.in_ok-asked.ensures);
      err = tt;
    }
