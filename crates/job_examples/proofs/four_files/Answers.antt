use Rattle.job_examples.proofs.FourFileRuns as runs
use Rattle.job_examples.proofs.four_files.Goals as goal

pub returns : goal.returns
returns c = runs.four_files
