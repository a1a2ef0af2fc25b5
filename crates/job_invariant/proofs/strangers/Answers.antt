use Rattle.job_invariant.proofs.Foreign.{foreign_keeps}
use Rattle.job_invariant.proofs.strangers.Goals as goal

pub returns : goal.returns
returns c = record { foreign = foreign_keeps }
