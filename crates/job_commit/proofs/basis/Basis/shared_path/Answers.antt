use Rattle.job_commit.proofs.Steps.{none_shared, shared_is}
use Rattle.job_model.specs.Jobs.{Job}
use Rattle.std.proofs.Common.{ap}
use Rattle.job_commit.proofs.basis.Basis.shared_path.Goals as goal

pub returns-in_ok-path-in-Some : goal.returns-in_ok-path-in-Some
returns-in_ok-path-in-Some c =
    shared_is c.args.self.now.plan c.plan.inside.dest c.args.self.now.sets c.as_slice.result.now c.in_ok-clash.field-0 c.in-Some.clash
    c.in_ok-path-in-Some.path c.requires.each c.requires.all c.as_slice.ensures c.in-Some.is c.in_ok-clash.ensures
    (ap (λ (j : Job). j.dest) c.plan.view_is) c.in_ok-path-in-Some.ensures

pub returns-in-None : goal.returns-in-None
returns-in-None c = none_shared c.args.self.now.plan c.args.self.now.sets c.as_slice.result.now c.in_ok-clash.field-0 c.requires.each
    c.requires.all c.as_slice.ensures c.in-None.is c.in_ok-clash.ensures
