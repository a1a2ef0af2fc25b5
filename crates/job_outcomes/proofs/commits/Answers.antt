use Rattle.job_outcomes.proofs.CommitRuns.{commit_runs}
use Rattle.job_outcomes.proofs.Served.{commit_answers}
use Rattle.job_outcomes.proofs.commits.Goals as goal

pub returns : goal.returns
returns c = record { runs = commit_runs; answers = commit_answers }
