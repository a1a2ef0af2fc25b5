use Rattle.job_refinement.proofs.Telling.{begins_same, asks_same, tells_same}
use Rattle.job_refinement.proofs.Picking.{picks_tell}
use Rattle.job_refinement.proofs.sets.Goals as goal

pub returns : goal.returns
returns c = record { tell = record { begins = begins_same; asks = asks_same; tells = tells_same }; picks = picks_tell }
