use Rattle.job_examples.proofs.TaskRuns as runs
use Rattle.job_examples.proofs.taken.Goals as goal

pub returns : goal.returns
returns c = runs.taken_run
