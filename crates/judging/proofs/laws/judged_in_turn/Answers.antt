use Rattle.judging.proofs.InTurn.{in_turn}
use Rattle.judging.proofs.laws.judged_in_turn.Goals as goal

pub returns : goal.returns
returns g c = in_turn _
