use Rattle.cleanup.proofs.Falling.{cleans_end}
use Rattle.cleanup.proofs.laws.cleans_end.Goals as goal

pub returns : goal.returns
returns c = cleans_end
