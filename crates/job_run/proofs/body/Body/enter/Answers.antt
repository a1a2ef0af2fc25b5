use Rattle.job_run.proofs.Moments.{event_of, few_attempts}
use Rattle.job_run.proofs.Opening.{has_entered}
use Rattle.job_run.proofs.body.Body.enter.Goals as goal

pub open-requires-clause-event : goal.open-requires-clause-event
open-requires-clause-event g c = event_of _ _ _ _ _ c.requires.ready.quiet.holds c.args.event c.requires.ready.next

pub open-requires-clause-few : goal.open-requires-clause-few
open-requires-clause-few g c = few_attempts _ _ _ _ _ c.requires.ready.quiet.holds c.args.event c.requires.ready.next

pub returns : goal.returns
returns g c = has_entered _ _ _ _ _ c.requires.ready.quiet c.args.event c.requires.ready.next c.requires.ready.fine c.requires.ready.turn _
    c.open.ensures c.requires.none c.requires.ready.room
