use Rattle.list_walk.proofs.Falling.{walk_laws}
use Rattle.list_walk.proofs.laws.walks_end.Goals as goal

pub returns : goal.returns
returns c = walk_laws
