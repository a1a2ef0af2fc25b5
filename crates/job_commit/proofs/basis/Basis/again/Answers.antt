use Rattle.job_commit.proofs.Goings.{again_counted, count_fits}
use Rattle.job_model.specs.Jobs.{Job}
use Rattle.std.proofs.Common.{ap, ◌∙◌}
use Rattle.job_commit.proofs.basis.Basis.again.Goals as goal

pub counted-requires : goal.counted-requires
counted-requires c =
    count_fits c.args.self.now.plan c.args.self.now.sets c.args.self.now.places c.args.next.now.step c.replace.result c.plan.inside.retries
    c.replace.ensures.value c.requires.step c.requires.missed (ap (λ (j : Job). j.retries) c.plan.view_is) c.plan.invariant.retries

pub returns-in_default : goal.returns-in_default
returns-in_default c = record {
  ok = again_counted c.args.self.now.plan c.args.self.now.sets c.args.self.now.places c.args.next.now.step c.replace.result
      c.put-in_default.new.place c.args.lost c.args.next.now.asked c.replace.ensures.value c.in_default.not-Completing c.requires.step
      c.requires.missed c.requires.asked
      (c.put-in_default.ensures ∙ c.counted.ensures);
  err = tt;
}
