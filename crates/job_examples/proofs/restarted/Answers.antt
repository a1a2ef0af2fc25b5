use Rattle.job_examples.proofs.FourFileRuns as runs
use Rattle.job_examples.proofs.restarted.Goals as goal

pub returns : goal.returns
returns c = runs.restarted
