use Rattle.job_commit.proofs.Tables.{done_within, worn_within, undo_still, worn_on}
use Rattle.job_commit.proofs.basis.Basis.wear_completion.Goals as goal

pub revert-requires-clause-finished : goal.revert-requires-clause-finished
revert-requires-clause-finished c = done_within c.args.self.now.sets c.args.self.now.places c.args.lanes c.go_on.new.self c.len.result
    c.requires.all.placed c.len.ensures c.in_ok-go_on-in-Some.ensures c.requires.within

pub revert-requires-clause-worn : goal.revert-requires-clause-worn
revert-requires-clause-worn c = worn_within c.args.self.now.sets c.args.self.now.places c.args.lanes c.in-Some.turn c.number.result
    c.len.result c.in-Some.ensures c.number.ensures c.requires.all.placed c.len.ensures c.requires.within

pub reverting-requires-clause-within : goal.reverting-requires-clause-within
reverting-requires-clause-within c = undo_still c.args.self.now.sets c.args.self.now.places c.len.result c.in_ok-undo-in-Some.undo
    c.requires.all.placed c.len.ensures c.in_ok-undo-in-Some.ensures.within

pub returns-in_ok-undo-in-Some-clause-ok : goal.returns-in_ok-undo-in-Some-clause-ok
returns-in_ok-undo-in-Some-clause-ok c =
    worn_on c.reverting.result c.args.self.now.plan c.args.self.now.sets c.args.self.now.places c.args.lanes c.go_on.new.self c.in-Some.turn
    c.number.result c.len.result c.in_ok-undo-in-Some.undo c.reverting.new.next c.in-Some.ensures c.number.ensures c.requires.all.placed
    c.len.ensures c.in_ok-go_on-in-Some.ensures
    c.in_ok-undo-in-Some.ensures.is c.reverting.ensures.ok
