use Rattle.job_operations.proofs.Beside.{attempts_stay}
use Rattle.job_operations.proofs.laws.attempts_stay.Goals as goal

pub returns : goal.returns
returns c = attempts_stay
