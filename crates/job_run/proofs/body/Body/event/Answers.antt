use Rattle.std.proofs.lemmas.Result.{on_ok_weaker}
use Rattle.job_run.proofs.Moments.{event_of}
use Rattle.job_run.proofs.Rooms.{refusal_is, next_roomy, turn_roomy, grown_roomy}
use Rattle.job_run.proofs.body.Body.event.Goals as goal

pub refusal-requires : goal.refusal-requires
refusal-requires g c = event_of _ _ _ _ _ c.make_room.ensures.quiet.holds c.args.event
    (next_roomy _ _ c.make_room.ensures.same c.args.event c.requires.next)

pub refuse-requires : goal.refuse-requires
refuse-requires g c = record {
  next = next_roomy _ _ c.make_room.ensures.same c.args.event c.requires.next;
  refused = refusal_is _ _ _ _ _ c.make_room.ensures.quiet c.args.event _ c.in-Some.ensures;
  turn = turn_roomy _ _ c.make_room.ensures.same c.requires.turn;
  room = c.in_ok-make_room.ensures.room;
  quiet = c.make_room.ensures.quiet;
}

pub play-requires : goal.play-requires
play-requires g c = record {
  next = next_roomy _ _ c.make_room.ensures.same c.args.event c.requires.next;
  fine = refusal_is _ _ _ _ _ c.make_room.ensures.quiet c.args.event _ c.in-None.ensures;
  turn = turn_roomy _ _ c.make_room.ensures.same c.requires.turn;
  room = c.in_ok-make_room.ensures.room;
  quiet = c.make_room.ensures.quiet;
}

pub returns-in-Some-clause-grown : goal.returns-in-Some-clause-grown
returns-in-Some-clause-grown g c = grown_roomy _ _ c.make_room.ensures.same _ c.refuse.ensures.grown

pub returns-in-None-clause-grown : goal.returns-in-None-clause-grown
returns-in-None-clause-grown g c = on_ok_weaker c.play.result (grown_roomy _ _ c.make_room.ensures.same _) c.play.ensures.grown
