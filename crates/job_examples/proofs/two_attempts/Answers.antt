use Rattle.job_examples.proofs.TaskRuns as runs
use Rattle.job_examples.proofs.two_attempts.Goals as goal

pub returns : goal.returns
returns c = runs.two_attempts
