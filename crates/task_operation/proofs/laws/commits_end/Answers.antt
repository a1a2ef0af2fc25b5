use Rattle.task_operation.proofs.CommitFalls.{commit_falls}
use Rattle.task_operation.proofs.laws.commits_end.Goals as goal

pub returns : goal.returns
returns c = record { falls = commit_falls }
