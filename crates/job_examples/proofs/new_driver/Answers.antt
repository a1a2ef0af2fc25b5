use Rattle.job_examples.proofs.TaskRuns as runs
use Rattle.job_examples.proofs.new_driver.Goals as goal

pub returns-clause-run : goal.returns-clause-run
returns-clause-run c = runs.new_driver

pub returns-clause-forgotten : goal.returns-clause-forgotten
returns-clause-forgotten c = runs.forgotten
