use Rattle.commit_lanes.proofs.SamePaths.{same_path_is}
use Rattle.commit_lanes.proofs.laws.same_paths.Goals as goal

pub returns : goal.returns
returns c = record { same = same_path_is }
