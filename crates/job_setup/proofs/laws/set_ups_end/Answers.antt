use Rattle.job_setup.proofs.Falling.{set_ups_end}
use Rattle.job_setup.proofs.laws.set_ups_end.Goals as goal

pub returns : goal.returns
returns c = set_ups_end
