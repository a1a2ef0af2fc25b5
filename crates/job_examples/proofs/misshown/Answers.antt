use Rattle.job_examples.proofs.Refusals.{shown, runs}
use Rattle.job_examples.proofs.misshown.Goals as goal

pub returns-clause-shown : goal.returns-clause-shown
returns-clause-shown c = shown

pub returns-clause-runs : goal.returns-clause-runs
returns-clause-runs c = runs
