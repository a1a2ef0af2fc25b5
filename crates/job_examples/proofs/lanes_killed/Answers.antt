use Rattle.job_examples.proofs.FourFileRuns as runs
use Rattle.job_examples.proofs.lanes_killed.Goals as goal

pub returns : goal.returns
returns c = runs.lanes_killed
