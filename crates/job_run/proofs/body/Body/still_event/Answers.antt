use Rattle.job_run.proofs.EventTurns.{still_turns}
use Rattle.job_run.proofs.Frames.{closing, grown_after}
use Rattle.job_run.proofs.Moving.{still_none}
use Rattle.job_run.specs.Holds.{same_laws}
use Rattle.std.proofs.Common.{refl}
use Rattle.job_run.proofs.body.Body.still_event.Goals as goal

pub enter-requires-clause-none : goal.enter-requires-clause-none
enter-requires-clause-none g c = still_none c.args.event c.requires.still

pub close-requires : goal.close-requires
close-requires g c =
    let e = c.enter.ensures in
    closing c.args.event _ _ _ e.entered (same_laws.self _) c.args.event refl c.requires.ready.room
    (still_turns _ c.args.event c.requires.still e.fine e.entered.fresh e.none)
    e.going

pub returns : goal.returns
returns g c = record {
  quiet = c.close.ensures.quiet;
  grown = grown_after c.args.event _ _ _ c.enter.ensures.entered (same_laws.self _) _
      c.close.ensures.grown;
}
