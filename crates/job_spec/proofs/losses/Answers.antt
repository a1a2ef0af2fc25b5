use Rattle.job_spec.proofs.Answered.{none_worn}
use Rattle.job_spec.proofs.losses.Goals as goal

pub returns : goal.returns
returns c = record { none = record { none = none_worn } }
