use Rattle.job_examples.proofs.TwinRuns as runs
use Rattle.job_examples.proofs.two_magic.Goals as goal

pub returns : goal.returns
returns c = runs.two_magic
