use Rattle.job_refinement.proofs.Deleted.{deletions_leave}
use Rattle.job_refinement.proofs.deletions.Goals as goal

pub returns : goal.returns
returns c = record { leave = deletions_leave }
