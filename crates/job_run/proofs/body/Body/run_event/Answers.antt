use Rattle.job_run.proofs.EventTurns.{ran_all, run_turns}
use Rattle.job_run.proofs.Frames.{closing, grown_after}
use Rattle.job_run.proofs.Moments.{event_of}
use Rattle.job_run.proofs.Moving.{busy_entered, place_entered, room_entered, run_moves}
use Rattle.job_spec.specs.States.{past}
use Rattle.job_run.proofs.body.Body.run_event.Goals as goal

pub place-place-requires : goal.place-place-requires
place-place-requires g c =
    (run_moves c.args.event c.args.actor c.requires.is).known c.args.self.now.side.script
    (event_of _ _ _ _ _ c.requires.ready.quiet.holds c.args.event c.requires.ready.next)

pub enter-requires-clause-none : goal.enter-requires-clause-none
enter-requires-clause-none g c = (run_moves c.args.event c.args.actor c.requires.is).none

pub run-requires-clause-going : goal.run-requires-clause-going
run-requires-clause-going g c =
    let k = c.enter.new.self in
    let moves = run_moves c.args.event c.args.actor c.requires.is in
    busy_entered _ _ _ _ _ _ k c.enter.ensures moves.stays c.args.actor c.place-place.result c.place-place.ensures
    (moves.busy (past k.side.script k.side.ends.items).state c.enter.ensures.fine)

pub run-requires-clause-room : goal.run-requires-clause-room
run-requires-clause-room g c = room_entered _ _ _ _ _ _ _ c.enter.ensures

pub close-requires : goal.close-requires
close-requires g c =
    let e = c.enter.ensures in
    let at = place_entered _ _ _ _ _ _ _ e c.args.actor c.place-place.result c.place-place.ensures in
    closing c.args.event _ _ _ e.entered c.run.ensures.keeps _ c.requires.is c.requires.ready.room
    (run_turns c.run.new.actors c.args.actor
    (ran_all g.W.Acts.left g.W.Works.rise c.place-place.result c.args.actor c.enter.new.self c.run.new.actors at e.entered.fresh e.none
    c.run.ensures.ran)) c.run.ensures.holds

pub returns : goal.returns
returns g c = record {
  quiet = c.close.ensures.quiet;
  grown = grown_after c.args.event _ _ _ c.enter.ensures.entered c.run.ensures.keeps _
      c.close.ensures.grown;
}
