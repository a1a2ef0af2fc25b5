use Rattle.job_outcomes.proofs.Alone.{go_alone}
use Rattle.job_outcomes.proofs.operations.Goals as goal

pub returns : goal.returns
returns c = record { alone = go_alone }
