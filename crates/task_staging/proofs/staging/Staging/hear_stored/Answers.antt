use Rattle.s3_types.specs.declared.request.Request.{Request}
use Rattle.std.proofs.Common.{Some, ap}
use Rattle.task_staging.proofs.Staged.{holds_open, keeps_open, stored_holds, stored_next, stored_told}
use Rattle.task_staging.proofs.staging.Staging.hear_stored.Goals as goal

pub returns-in-Ok : goal.returns-in-Ok
returns-in-Ok c =
    let t = c.args.plan.now in
    let h = c.args.self.now in
    record {
      keeps = keeps_open _ _ c.requires.at.end (stored_holds t h.stage h.checks h.place h.end _ c.tell_put.ensures c.requires.at.end h.set
          (holds_open t h c.requires.at.end c.requires.at.keeps).set);
      told = λ b. stored_told t h.stage h.checks h.place h.end _ c.tell_put.ensures c.requires.at.end c.args.reply.now b c.requires.at.stage
          c.requires.none c.requires.behind;
      next = stored_next t h.stage h.checks h.place h.end _ c.tell_put.ensures c.requires.at.end c.in-Ok.asked
          (ap (λ (r : Request). Some r) c.in-Ok.ensures);
      err = tt;
    }
