use Rattle.job_outcomes.proofs.CleanEnds.{cleans_end}
use Rattle.job_outcomes.proofs.cleans.Goals as goal

pub returns : goal.returns
returns c = record { end = cleans_end }
