use Rattle.job_protocol.proofs.Told.{tasks_tell, jobs_tell}
use Rattle.job_protocol.proofs.plans.Goals as goal

pub returns : goal.returns
returns c = record { tasks = tasks_tell; jobs = jobs_tell }
