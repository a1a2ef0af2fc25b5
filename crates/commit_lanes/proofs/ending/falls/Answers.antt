use Rattle.commit_lanes.proofs.Falling.{commit_falls}
use Rattle.commit_lanes.proofs.ending.falls.Goals as goal

pub returns : goal.returns
returns c = commit_falls
