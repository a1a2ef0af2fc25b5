use Rattle.job_actor.proofs.Picking.{picks_go}
use Rattle.job_run.proofs.Moments.{event_of, no_entries}
use Rattle.job_run.proofs.Frames.{begun_entered}
use Rattle.job_run.proofs.Beginning.{begins_op, gives_plan, opens_then, legal_then, plan_then, attempt_begun}
use Rattle.job_run.proofs.body.Body.begin_attempt.Goals as goal

pub take_plan-plan-requires : goal.take_plan-plan-requires
take_plan-plan-requires g c =
    gives_plan g.W.Acts.wants g.W.Acts.end_of g.W.Works.is_of g.W.Works.running g.W.Works.picks_of g.met.W.Acts.laws.goes_on
    c.laws.ensures.ends _ c.requires.ready.quiet c.args.event c.args.actor c.args.op c.args.place c.requires.begins c.requires.attempt
    c.requires.actor c.requires.ready.fine

pub open-requires : goal.open-requires
open-requires g c = opens_then _ _ _ _ _ c.requires.ready.quiet _ c.args.event c.requires.ready.next c.args.place
    c.take_plan-plan.ensures.emptied

pub attempt_work-work-requires : goal.attempt_work-work-requires
attempt_work-work-requires g c = record {
  legal = legal_then _ _ _ _ _ c.requires.ready.quiet _ c.args.event c.requires.ready.next c.args.place c.take_plan-plan.ensures.emptied _
      c.open.ensures;
  attempt = c.requires.attempt;
  op =
      begins_op c.args.self.now.side.script c.args.event c.args.actor c.args.op c.requires.begins
      (event_of _ _ _ _ _ c.requires.ready.quiet.holds c.args.event c.requires.ready.next);
  plan =
      plan_then _ _ _ _ _ c.requires.ready.quiet _ c.args.event c.requires.ready.next c.args.place c.take_plan-plan.ensures.emptied _
      c.open.ensures c.args.actor _
      c.take_plan-plan.ensures.plan;
}

pub take_up-requires : goal.take_up-requires
take_up-requires g c =
    attempt_begun _ _ _ _ c.laws.ensures.has_picks picks_go _ _ _ c.requires.ready.quiet c.args.event c.requires.ready.next
    c.requires.ready.fine c.requires.ready.turn c.args.actor c.args.op c.args.place c.requires.begins c.requires.actor
    c.requires.ready.room
    c.take_plan-plan.ensures.emptied c.open.ensures _ c.requires.attempt c.take_plan-plan.ensures.picks c.attempt_work-work.ensures

pub returns : goal.returns
returns g c =
    let entered = begun_entered c.args.place c.args.event _ _ _ _ c.take_plan-plan.ensures.emptied c.open.ensures c.take_up.ensures.same
    c.take_up.ensures.journal (no_entries _ _ _ _ _ c.requires.ready.quiet.holds c.requires.ready.quiet.idle) in
    record { going = c.take_up.ensures.going; entered = entered; taken = c.take_up.ensures.taken }
