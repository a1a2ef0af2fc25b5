use Rattle.std.proofs.Common.{subst}
use Rattle.task_magic.proofs.Committed.{all_taken, asks_record, asks_set, no_place}
use Rattle.task_requests.proofs.Steps.{ok_as}
use Rattle.task_requests.specs.Publishing.{AreReady}
use Rattle.task_magic.proofs.committing.record_or_set.Goals as goal

pub returns-in-Some : goal.returns-in-Some
returns-in-Some c = ok_as c.read_request.result _ _ c.read_request.ensures (asks_record c.args.plan.now c.args.places.now c.args.records.now
    c.args.at c.in-Some.key.now c.requires.records c.in-Some.ensures)

pub publish_request-requires-clause-ready : goal.publish_request-requires-clause-ready
publish_request-requires-clause-ready c =
    let none = no_place c.args.plan.now c.args.places.now c.args.records.now c.args.at c.requires.records c.in-None.ensures in
    subst (AreReady c.args.plan.now) (all_taken c.args.plan.now.files c.args.places.now c.args.at none) c.requires.ready

pub returns-in-None : goal.returns-in-None
returns-in-None c =
    let none = no_place c.args.plan.now c.args.places.now c.args.records.now c.args.at c.requires.records c.in-None.ensures in
    ok_as c.publish_request.result _ _ c.publish_request.ensures (asks_set c.args.plan.now c.args.places.now c.args.at none)
