use Rattle.job_examples.proofs.TaskRuns as runs
use Rattle.job_examples.proofs.lost_mark.Goals as goal

pub returns : goal.returns
returns c = runs.lost_mark
