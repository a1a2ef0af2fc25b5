use Rattle.job_outcomes.proofs.RunEntries.{run_entries}
use Rattle.job_outcomes.proofs.entries.Goals as goal

pub returns : goal.returns
returns c = record { whose = run_entries }
