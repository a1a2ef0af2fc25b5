use Rattle.job_commit.proofs.Steps.{begins_deleting, kept_next, next_same, spared_is}
use Rattle.job_model.specs.Jobs.{Job}
use Rattle.std.proofs.Common.{ap, sym, ◌∙◌}
use Rattle.std.proofs.lemmas.Result.{on_ok_weaker}
use Rattle.job_commit.proofs.basis.Basis.replacing.Goals as goal

pub returns-in-Fail-clause-ok : goal.returns-in-Fail-clause-ok
returns-in-Fail-clause-ok c =
    kept_next c.dealing.result c.args.self.now.plan c.args.self.now.sets c.args.self.now.places c.plan.inside.mode c.dealing.new.next
    (ap (λ (j : Job). j.mode) c.plan.view_is)
    (λ e. let f = c.in-Fail.is in cc) c.dealing.ensures.ok

pub returns-in-Append-clause-ok : goal.returns-in-Append-clause-ok
returns-in-Append-clause-ok c =
    kept_next c.dealing-in-Append.result c.args.self.now.plan c.args.self.now.sets c.args.self.now.places c.plan.inside.mode
    c.dealing-in-Append.new.next
    (ap (λ (j : Job). j.mode) c.plan.view_is) (λ e. let f = c.in-Append.is in cc) c.dealing-in-Append.ensures.ok

pub deleting-requires-clause-spared : goal.deleting-requires-clause-spared
deleting-requires-clause-spared c = spared_is c.in_ok-deletion-in-Replace.deletion c.args.self.now.plan _ _
    c.in_ok-deletion-in-Replace.ensures

pub returns-in_ok-deletion-in-Replace-clause-ok : goal.returns-in_ok-deletion-in-Replace-clause-ok
returns-in_ok-deletion-in-Replace-clause-ok c =
    on_ok_weaker c.deleting.result
    (next_same _ _ (begins_deleting c.args.self.now.plan c.args.self.now.sets c.in_ok-deletion-in-Replace.deletion
    (sym (ap (λ (j : Job). j.mode) c.plan.view_is) ∙ c.in-Replace.is) c.in_ok-deletion-in-Replace.ensures)) c.deleting.ensures.ok
