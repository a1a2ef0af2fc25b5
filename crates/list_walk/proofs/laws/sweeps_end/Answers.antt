use Rattle.list_walk.proofs.Falling.{sweep_laws}
use Rattle.list_walk.proofs.laws.sweeps_end.Goals as goal

pub returns : goal.returns
returns c = sweep_laws
