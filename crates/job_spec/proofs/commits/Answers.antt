use Rattle.job_spec.proofs.Complete.{complete}
use Rattle.job_spec.proofs.commits.Goals as goal

pub returns : goal.returns
returns c = record { complete = record { committed = complete } }
