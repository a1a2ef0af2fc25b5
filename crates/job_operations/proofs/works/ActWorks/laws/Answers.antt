use Rattle.job_operations.proofs.WorkLaws.{act_works}
use Rattle.job_operations.proofs.works.ActWorks.laws.Goals as goal

pub returns : goal.returns
returns c = act_works
