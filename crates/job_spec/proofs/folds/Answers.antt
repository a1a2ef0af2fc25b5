use Rattle.job_spec.proofs.Told.{scene_is, of_stranger}
use Rattle.job_spec.proofs.folds.Goals as goal

pub returns : goal.returns
returns c = record { seen = record { scene = scene_is; stranger = of_stranger } }
