use Rattle.job_examples.proofs.TaskRuns as runs
use Rattle.job_examples.proofs.shared_path.Goals as goal

pub returns : goal.returns
returns c = runs.shared_path
