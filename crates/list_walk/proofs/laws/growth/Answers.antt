use Rattle.list_walk.proofs.Growing.{growth}
use Rattle.list_walk.proofs.laws.growth.Goals as goal

pub returns : goal.returns
returns c = growth
