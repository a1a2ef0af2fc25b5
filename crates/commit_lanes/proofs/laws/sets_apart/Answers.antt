use Rattle.commit_lanes.proofs.KeysApart.{sets_apart}
use Rattle.commit_lanes.proofs.laws.sets_apart.Goals as goal

pub returns : goal.returns
returns c = record { apart = sets_apart }
