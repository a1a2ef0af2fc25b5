use Rattle.job_commit.proofs.Steps.{deleting_next, next_same, over_below}
use Rattle.std.proofs.Common.{refl, sym, ◌∙◌}
use Rattle.std.proofs.lemmas.Result.{on_ok_weaker}
use Rattle.job_commit.proofs.basis.Basis.delete_on.Goals as goal

pub returns-in-Some-clause-ok : goal.returns-in-Some-clause-ok
returns-in-Some-clause-ok c =
    deleting_next c.args.self.now.plan c.args.self.now.sets c.args.self.now.places c.args.deletion c.args.self.now.plan.dest.bucket
    c.in-Some.asked c.go_on.new.self c.requires.all c.requires.spared refl (sym c.in-Some.is ∙ c.requires.asked) c.go_on.ensures

pub returns-in-None-clause-ok : goal.returns-in-None-clause-ok
returns-in-None-clause-ok c =
    on_ok_weaker c.dealing.result
    (next_same _ _ (over_below c.args.self.now.plan c.args.self.now.sets c.args.deletion.sweep c.args.self.now.plan.dest.bucket
    c.args.deletion.prefixes
    (sym c.in-None.is ∙ c.requires.asked))) c.dealing.ensures.ok
