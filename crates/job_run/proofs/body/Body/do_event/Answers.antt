use Rattle.std.proofs.Common.{refl}
use Rattle.job_run.proofs.Moments.{event_of}
use Rattle.job_run.proofs.Frames.{closing, grown_after}
use Rattle.job_run.proofs.Beginning.{known_named}
use Rattle.job_run.proofs.EventTurns.{do_turns}
use Rattle.job_run.proofs.body.Body.do_event.Goals as goal

pub place-place-requires : goal.place-place-requires
place-place-requires g c =
    known_named c.args.self.now.side.script c.args.event c.args.actor c.args.op (rw c.requires.is (refl, refl))
    (event_of _ _ _ _ _ c.requires.ready.quiet.holds c.args.event c.requires.ready.next)

pub begin-goes_on-requires-clause-begins : goal.begin-goes_on-requires-clause-begins
begin-goes_on-requires-clause-begins g c = rw c.requires.is (refl, refl)

pub carry_on-requires-clause-actor : goal.carry_on-requires-clause-actor
carry_on-requires-clause-actor g c = rw c.begin-goes_on.ensures.entered.stays.script c.place-place.ensures

pub close-requires : goal.close-requires
close-requires g c =
    closing c.args.event _ _ _ c.begin-goes_on.ensures.entered c.carry_on.ensures.same _ c.requires.is c.requires.ready.room
    (do_turns _ c.args.actor c.args.op c.carry_on.ensures.all) c.carry_on.ensures.going

pub returns : goal.returns
returns g c = record {
  quiet = c.close.ensures.quiet;
  grown = grown_after c.args.event _ _ _ c.begin-goes_on.ensures.entered
      c.carry_on.ensures.same _ c.close.ensures.grown;
}
