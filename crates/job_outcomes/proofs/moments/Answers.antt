use Rattle.job_outcomes.proofs.CommitMoments.{commit_moments}
use Rattle.job_outcomes.proofs.moments.Goals as goal

pub returns : goal.returns
returns c = record { picks = commit_moments }
