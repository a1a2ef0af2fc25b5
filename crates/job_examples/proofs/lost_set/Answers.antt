use Rattle.job_examples.proofs.TaskRuns as runs
use Rattle.job_examples.proofs.lost_set.Goals as goal

pub returns : goal.returns
returns c = runs.lost_set
