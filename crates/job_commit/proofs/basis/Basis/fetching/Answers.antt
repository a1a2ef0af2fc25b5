use Rattle.job_commit.proofs.Steps.{fetching_is}
use Rattle.job_model.specs.Jobs.{Job}
use Rattle.std.proofs.Common.{ap}
use Rattle.job_commit.proofs.basis.Basis.fetching.Goals as goal

pub returns-in_ok-asked-clause-ok : goal.returns-in_ok-asked-clause-ok
returns-in_ok-asked-clause-ok c =
    fetching_is c.args.self.now.plan c.args.self.now.sets c.args.self.now.places c.len-count.result c.plan.inside.tasks c.in_ok-asked.asked
    c.go_on.new.self c.requires.each c.len-count.ensures (ap (λ (j : Job). j.tasks) c.plan.view_is) c.if-count-plan.true
    c.in_ok-asked.ensures c.go_on.ensures
