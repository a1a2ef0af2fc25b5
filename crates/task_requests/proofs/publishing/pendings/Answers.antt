use Rattle.std.proofs.Common.{◌∙◌}
use Rattle.task_requests.proofs.LastDrawn.{ready_at, records_with}
use Rattle.task_requests.proofs.publishing.pendings.Goals as goal

pub pending_at-requires-clause-ready : goal.pending_at-requires-clause-ready
pending_at-requires-clause-ready c = ready_at c.args.plan.now c.args.places.now c.loop-place.place-index c.loop-place-test.true
    c.requires.ready

pub loop-place-preserved : goal.loop-place-preserved
loop-place-preserved c = c.in-Ok-push.ensures.ok ∙ records_with c.args.plan.now c.args.places.now c.loop-place.place-index c.loop-place.list
    c.in-Ok.pending c.loop-place-test.true c.loop-place.invariant c.in-Ok.ensures
