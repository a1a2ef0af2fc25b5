use Rattle.job_examples.proofs.TwinRuns as runs
use Rattle.job_examples.proofs.conflict.Goals as goal

pub returns : goal.returns
returns c = runs.found_conflict
