use Rattle.std.proofs.Common.{refl, ◌∙◌}
use Rattle.task_staging.proofs.Staged.{keeps_open, holds_open, is_last, closes, close_told, close_holds, close_next}
use Rattle.task_staging.proofs.staging.Staging.close.Goals as goal

pub add_record-requires : goal.add_record-requires
add_record-requires c =
    let t = c.args.plan.now in
    let h = c.args.self.now in
    is_last t h.stage h.checks h.place c.args.sent h.end c.requires.at.end c.requires.at.stage
    (holds_open t h c.requires.at.end c.requires.at.keeps).at c.args.part.now.tag c.args.part.now.size c.requires.part.size
    c.requires.part.plain c.requires.last

pub returns-in-Ok : goal.returns-in-Ok
returns-in-Ok c =
    let t = c.args.plan.now in
    let h = c.args.self.now in
    let k = holds_open t h c.requires.at.end c.requires.at.keeps in
    let set = closes t h.stage h.checks h.place c.args.sent c.requires.at.stage k.at c.args.part.now.tag c.args.part.now.size h.set _
    c.add_record.new.records c.job_of.ensures.task k.set refl c.in_ok-add_record.ensures in
    record {
      keeps = keeps_open _ _ c.requires.at.end (close_holds t h.stage h.checks h.place c.args.sent h.end c.requires.at.end
          c.requires.at.stage k.at c.args.part.now.tag c.args.part.now.size c.requires.part.size c.requires.part.plain _
          c.in-Ok.ensures.drawn c.requires.last _ set);
      told = λ b. close_told t h.stage h.checks h.place c.args.sent h.end c.requires.at.end c.requires.at.stage
          (holds_open t h c.requires.at.end c.requires.at.keeps).at c.args.part.now.tag c.args.part.now.size c.requires.part.size
          c.requires.part.plain _ c.in-Ok.ensures.drawn c.requires.last b;
      next = close_next t h.stage h.checks h.place c.args.sent h.end c.requires.at.end c.requires.at.stage k.at c.args.part.now.tag
          c.args.part.now.size c.requires.part.size c.requires.part.plain _ c.in-Ok.ensures.drawn c.requires.last _ c.in-Ok.asked set
          (c.in-Ok.ensures.asked ∙ c.in_ok-asked.ensures);
      err = tt;
    }
