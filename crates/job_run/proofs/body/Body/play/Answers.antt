use Rattle.job_run.proofs.Moments.{stands_of}
use Rattle.job_run.proofs.body.Body.play.Goals as goal

pub mix_event-requires-clause-busy : goal.mix_event-requires-clause-busy
mix_event-requires-clause-busy g c = c.in_ok-busy-in-Mix.ensures _ _ (stands_of _ _ _ _ _ c.requires.quiet.holds c.requires.quiet.idle)
