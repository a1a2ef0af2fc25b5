use Rattle.job_run.proofs.Beginning.{known_named}
use Rattle.job_run.proofs.EventTurns.{start_turns}
use Rattle.job_run.proofs.Frames.{closing, grown_after}
use Rattle.job_run.proofs.Moments.{event_of}
use Rattle.job_run.specs.Holds.{same_laws}
use Rattle.std.proofs.Common.{refl}
use Rattle.job_run.proofs.body.Body.start_event.Goals as goal

pub place-place-requires : goal.place-place-requires
place-place-requires g c =
    known_named c.args.self.now.side.script c.args.event c.args.actor c.args.op (rw c.requires.is (refl, refl))
    (event_of _ _ _ _ _ c.requires.ready.quiet.holds c.args.event c.requires.ready.next)

pub begin-requires-clause-begins : goal.begin-requires-clause-begins
begin-requires-clause-begins g c = rw c.requires.is (refl, refl)

pub close-requires : goal.close-requires
close-requires g c =
    let b = c.begin.ensures in
    closing c.args.event _ _ _ b.entered (same_laws.self _) _ c.requires.is c.requires.ready.room
    (start_turns _ _ c.args.actor c.args.op c.begin.result b.taken b.entered.fresh)
    b.going

pub returns : goal.returns
returns g c = record {
  quiet = c.close.ensures.quiet;
  grown = grown_after c.args.event _ _ _ c.begin.ensures.entered (same_laws.self _) _
      c.close.ensures.grown;
}
