use Rattle.job_commit.proofs.Tables.{answered_next, answered_still}
use Rattle.job_model.specs.Jobs.{Job}
use Rattle.std.proofs.Common.{ap}
use Rattle.job_commit.proofs.basis.Basis.hear_completion.Goals as goal

pub completing-requires-clause-within : goal.completing-requires-clause-within
completing-requires-clause-within c =
    answered_still c.args.self.now.plan c.args.self.now.sets c.args.self.now.places c.args.lanes c.go_on.new.self c.finish.new.self
    c.in-Some.turn c.next_turn.result c.number.result c.number-in-Some.result c.plan.inside.lanes c.len.result c.in-Some.ensures
    c.number.ensures c.number-in-Some.ensures
    (ap (λ (j : Job). j.lanes) c.plan.view_is) c.len.ensures c.next_turn.ensures c.in_ok-go_on-in-Some.ensures
    c.in_ok-finish-in-Some.ensures c.requires.all.placed c.requires.within

pub returns-in_ok-finish-in-Some-clause-ok : goal.returns-in_ok-finish-in-Some-clause-ok
returns-in_ok-finish-in-Some-clause-ok c =
    answered_next c.completing.result c.args.self.now.plan c.args.self.now.sets c.args.self.now.places c.args.lanes c.go_on.new.self
    c.finish.new.self c.in-Some.turn c.next_turn.result c.number.result c.number-in-Some.result c.plan.inside.lanes c.len.result
    c.completing.new.next c.in-Some.ensures c.number.ensures
    c.number-in-Some.ensures (ap (λ (j : Job). j.lanes) c.plan.view_is) c.len.ensures c.next_turn.ensures c.in_ok-go_on-in-Some.ensures
    c.in_ok-finish-in-Some.ensures c.requires.all.placed c.completing.ensures.ok
