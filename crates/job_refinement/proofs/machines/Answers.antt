use Rattle.job_refinement.proofs.Others.{others_leave}
use Rattle.job_refinement.proofs.Planned.{machines_tell}
use Rattle.job_refinement.proofs.machines.Goals as goal

pub returns : goal.returns
returns c = record { tell = machines_tell; others = others_leave }
