use Rattle.job_examples.proofs.TwinRuns as runs
use Rattle.job_examples.proofs.two_jobs.Goals as goal

pub returns-clause-first : goal.returns-clause-first
returns-clause-first c = runs.two_jobs

pub returns-clause-other : goal.returns-clause-other
returns-clause-other c = runs.the_other
