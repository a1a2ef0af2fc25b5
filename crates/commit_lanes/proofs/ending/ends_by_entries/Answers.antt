use Rattle.commit_lanes.proofs.CommitEnds.{commit_ends}
use Rattle.commit_lanes.proofs.ending.ends_by_entries.Goals as goal

pub returns : goal.returns
returns c = record { ends = commit_ends }
