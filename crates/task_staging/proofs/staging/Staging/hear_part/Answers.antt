use Rattle.job_protocol.specs.AtWork.{task_commit_wants}
use Rattle.std.proofs.Common.{ap, subst, sym, ◌∙◌}
use Rattle.task_requests.proofs.Steps.{tag_none, tag_plain}
use Rattle.task_staging.proofs.Staged.{gone_told, holds_open, is_sent, open_fits, sent_here, told_part}
use Rattle.task_staging.specs.Staging.{Keeps}
use Rattle.task_staging.specs.inner.Staging.{seen}
use Rattle.task_staging.specs.declared.staging.Staging.{Staging}
use Rattle.job_model.specs.declared.ends.TaskEnd.TheVariants as ends
use Rattle.task_staging.proofs.staging.Staging.hear_part.Goals as goal

pub add_part-requires-clause-plain : goal.add_part-requires-clause-plain
add_part-requires-clause-plain c =
    let t = c.args.plan.now in
    let h = c.args.self.now in
    tag_plain c.args.reply.now c.in-Some.tag (open_fits t h.stage h.checks h.place c.args.sent h.end c.args.reply.now c.requires.at.end
    c.requires.at.stage (holds_open t h c.requires.at.end c.requires.at.keeps).at c.requires.fits) c.in-Some.ensures

pub returns-in-Some : goal.returns-in-Some
returns-in-Some c =
    let k = c.add_part.ensures in
    record {
      keeps = k.keeps;
      told = told_part c.add_part.result (seen c.args.plan.now c.args.self.now) (seen c.add_part.new.plan c.add_part.new.self)
          c.args.reply.now c.in-Some.tag c.in-Some.ensures k.told;
      next = k.next;
      err = k.err;
    }

pub gone_name-requires : goal.gone_name-requires
gone_name-requires c = (sent_here c.args.plan.now c.args.self.now c.args.sent c.requires.at.end c.requires.at.keeps
    c.requires.at.stage).within

pub returns-in_ok-name-in-None : goal.returns-in_ok-name-in-None
returns-in_ok-name-in-None c =
    let t = c.args.plan.now in
    let h = c.args.self.now in
    let at = (holds_open t h c.requires.at.end c.requires.at.keeps).at in
    let none = tag_none c.args.reply.now (open_fits t h.stage h.checks h.place c.args.sent h.end c.args.reply.now c.requires.at.end
    c.requires.at.stage at c.requires.fits) c.in-None.ensures in
    record {
      keeps = subst (Keeps t) (sym c.finish.ensures) tt;
      told = λ b. ap (λ (x : Staging). seen t x) c.finish.ensures ∙ gone_told t h.stage h.checks h.place c.args.sent h.end c.args.reply.now
          b _ c.requires.at.end c.requires.at.stage (is_sent t h.stage h.checks h.place c.args.sent at c.requires.at.stage) none
          (ap ends.Gone c.in_ok-name-in-None.ensures);
      next = ap (λ (x : Staging). task_commit_wants (seen t x)) (sym c.finish.ensures);
      err = tt;
    }
