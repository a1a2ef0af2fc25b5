use Rattle.job_states.proofs.PlaceLemmas.{no_place}
use Rattle.job_run.proofs.body.Body.place.Goals as goal

pub unreachable-requires : goal.unreachable-requires
unreachable-requires g c = no_place _ _ c.in-None.ensures c.requires
