use Rattle.job_actor.proofs.Picking.{picks_go}
use Rattle.job_run.proofs.Beginning.{begins_op, driver_begun, legal_then, opens_then}
use Rattle.job_run.proofs.Finishes.{has_hand}
use Rattle.job_run.proofs.Frames.{begun_entered}
use Rattle.job_run.proofs.Moments.{event_of, no_entries}
use Rattle.job_run.proofs.Standings.{placed}
use Rattle.s3_types.specs.declared.request.Actor.TheVariants.{Driver}
use Rattle.std.proofs.Common.{refl}
use Rattle.job_run.proofs.body.Body.begin_driver.Goals as goal

pub put_by-requires : goal.put_by-requires
put_by-requires g c = has_hand _ _ _ _ _ c.args.place Driver c.requires.ready.quiet.holds (placed _ _ _ c.requires.actor)

pub open-requires : goal.open-requires
open-requires g c = opens_then _ _ _ _ _ c.requires.ready.quiet _ c.args.event c.requires.ready.next c.args.place c.put_by.ensures.emptied

pub driver_work-work-requires : goal.driver_work-work-requires
driver_work-work-requires g c = record {
  legal = legal_then _ _ _ _ _ c.requires.ready.quiet _ c.args.event c.requires.ready.next c.args.place c.put_by.ensures.emptied _
      c.open.ensures;
  op = begins_op c.args.self.now.side.script c.args.event Driver c.args.op c.requires.begins
      (event_of _ _ _ _ _ c.requires.ready.quiet.holds c.args.event c.requires.ready.next);
}

pub take_up-requires : goal.take_up-requires
take_up-requires g c =
    driver_begun _ _ _ _ c.laws.ensures.has_picks picks_go _ _ _ c.requires.ready.quiet c.args.event c.requires.ready.next
    c.requires.ready.fine c.requires.ready.turn Driver c.args.op c.args.place c.requires.begins c.requires.actor c.requires.ready.room
    c.put_by.ensures.emptied c.open.ensures _ refl c.put_by.ensures.picks c.driver_work-work.ensures

pub returns : goal.returns
returns g c =
    let entered = begun_entered c.args.place c.args.event _ _ _ _ c.put_by.ensures.emptied c.open.ensures c.take_up.ensures.same
    c.take_up.ensures.journal (no_entries _ _ _ _ _ c.requires.ready.quiet.holds c.requires.ready.quiet.idle) in
    record { going = c.take_up.ensures.going; entered = entered; taken = c.take_up.ensures.taken }
