use Rattle.std.proofs.Common.{sym, ◌∙◌}
use Rattle.task_requests.proofs.Steps.{created_new, created_some}
use Rattle.task_staging.proofs.Staged.{fits_create, holds_open, keeps_open, upload_holds, upload_next, upload_told}
use Rattle.task_staging.proofs.staging.Staging.hear_upload.Goals as goal

pub unreachable-requires : goal.unreachable-requires
unreachable-requires c =
    let t = c.args.plan.now in
    let h = c.args.self.now in
    created_some t.known.drawn c.args.reply.now (fits_create t h.stage h.checks h.place h.end c.requires.at.end c.requires.at.stage
    c.requires.none c.requires.within c.args.reply.now c.requires.fits) (sym c.in_default.is ∙ c.upload_in.ensures)

pub returns-in-Ok : goal.returns-in-Ok
returns-in-Ok c =
    let t = c.args.plan.now in
    let h = c.args.self.now in
    let new = created_new t.known.drawn c.args.reply.now c.in-Some.upload (fits_create t h.stage h.checks h.place h.end c.requires.at.end
    c.requires.at.stage c.requires.none c.requires.within c.args.reply.now c.requires.fits) c.in-Some.ensures in
    record {
      keeps = keeps_open _ _ c.requires.at.end (upload_holds t h.stage h.checks h.place h.end c.requires.at.end c.requires.at.stage
          c.requires.none c.requires.within c.in-Some.upload _ c.in-Ok.ensures.drawn h.set c.job_of.ensures.task new
          (holds_open t h c.requires.at.end c.requires.at.keeps).set);
      told = λ b. upload_told t h.stage h.checks h.place h.end c.requires.at.end c.requires.at.stage c.requires.none c.requires.within
          c.in-Some.upload _ c.in-Ok.ensures.drawn c.args.reply.now b c.in-Some.ensures;
      next = upload_next t h.stage h.checks h.place h.end c.requires.at.end c.requires.at.stage c.requires.none c.requires.within
          c.in-Some.upload _ c.in-Ok.ensures.drawn c.in-Ok.asked new c.in-Ok.ensures.asked;
      err = tt;
    }
