use Rattle.job_protocol.specs.AtWork.{task_commit_wants}
use Rattle.std.proofs.Common.{ap, false, refl, subst, sym, ◌∙◌}
use Rattle.task_staging.proofs.Staged.{at_err, at_ok, found_told, holds_open, keeps_open, passed_holds, passed_told}
use Rattle.task_staging.specs.Staging.{Keeps}
use Rattle.task_staging.specs.inner.Staging.{seen}
use Rattle.task_staging.specs.declared.staging.Staging.{Staging}
use Rattle.task_staging.proofs.staging.Staging.hear_check.Goals as goal

pub returns-in-Some : goal.returns-in-Some
returns-in-Some c =
    let t = c.args.plan.now in
    let h = c.args.self.now in
    record {
      keeps = subst (Keeps t) (sym c.finish.ensures) tt;
      told = λ b. ap (λ (x : Staging). seen t x) c.finish.ensures ∙ found_told t h.stage h.checks h.place h.end c.args.reply.now b
          c.requires.at.end c.requires.at.stage c.requires.some _ _ c.in-Some.partition c.in_ok-partition.ensures.found
          c.in_ok-partition.ensures.left c.in-Some.is;
      next = ap (λ (x : Staging). task_commit_wants (seen t x)) (sym c.finish.ensures);
      err = tt;
    }

pub ask-requires : goal.ask-requires
ask-requires c =
    let t = c.args.plan.now in
    let h = c.args.self.now in
    let k = holds_open t h c.requires.at.end c.requires.at.keeps in
    keeps_open t _ c.requires.at.end (record {
      set = k.set;
      at = passed_holds t h.stage h.checks h.place h.end c.args.reply.now false
          c.requires.at.end c.requires.at.stage c.requires.some _ k.at;
    })

pub returns-in-None : goal.returns-in-None
returns-in-None c =
    let t = c.args.plan.now in
    let h = c.args.self.now in
    let k = holds_open t h c.requires.at.end c.requires.at.keeps in
    record {
      keeps = at_ok c.ask.result _ (keeps_open t _ c.requires.at.end (record {
        set = k.set;
        at = passed_holds t h.stage h.checks h.place h.end c.args.reply.now false c.requires.at.end c.requires.at.stage
            c.requires.some _ k.at;
      }));
      told = at_ok c.ask.result _ (λ b. passed_told t h.stage h.checks h.place h.end c.args.reply.now b c.requires.at.end
          c.requires.at.stage c.requires.some _ _ k.at c.in_ok-partition.ensures.found c.in_ok-partition.ensures.left c.in-None.is);
      next = c.ask.ensures;
      err = at_err c.ask.result _ refl;
    }
