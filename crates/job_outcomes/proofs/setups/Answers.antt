use Rattle.job_outcomes.proofs.SetupEnds.{setups_end}
use Rattle.job_outcomes.proofs.setups.Goals as goal

pub returns : goal.returns
returns c = record { end = setups_end }
