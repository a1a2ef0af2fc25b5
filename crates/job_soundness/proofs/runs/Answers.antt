use Rattle.job_soundness.proofs.Safe.{runs_are_safe}
use Rattle.job_soundness.proofs.runs.Goals as goal

pub returns : goal.returns
returns c = record { safe = runs_are_safe }
