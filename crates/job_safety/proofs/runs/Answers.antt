use Rattle.job_safety.proofs.Kept.{runs_are_kept, kept_among}
use Rattle.job_safety.proofs.Facts.{runs_hold_facts}
use Rattle.job_safety.proofs.runs.Goals as goal

pub returns : goal.returns
returns c = record { among = kept_among; kept = runs_are_kept; facts = runs_hold_facts }
