use Rattle.job_commit.proofs.Steps.{dealt_next, dealt_within}
use Rattle.job_model.specs.Jobs.{Job}
use Rattle.std.proofs.Common.{ap}
use Rattle.job_commit.proofs.basis.Basis.dealing.Goals as goal

pub completing-requires-clause-within : goal.completing-requires-clause-within
completing-requires-clause-within c =
    dealt_within c.args.self.now.plan c.args.self.now.sets c.args.self.now.places c.in_ok-lanes.lanes c.plan.inside.lanes c.len.result
    c.plan.invariant.one_lane (ap (λ (j : Job). j.lanes) c.plan.view_is) c.len.ensures c.requires.placed c.in_ok-lanes.ensures

pub returns-clause-ok : goal.returns-clause-ok
returns-clause-ok c =
    dealt_next c.completing.result c.args.self.now.plan c.args.self.now.sets c.args.self.now.places c.in_ok-lanes.lanes c.plan.inside.lanes
    c.len.result c.completing.new.next (ap (λ (j : Job). j.lanes) c.plan.view_is) c.len.ensures c.requires.placed c.in_ok-lanes.ensures
    c.completing.ensures.ok
