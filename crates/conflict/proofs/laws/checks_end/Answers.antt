use Rattle.conflict.proofs.Falling.{checks_end}
use Rattle.conflict.proofs.laws.checks_end.Goals as goal

pub returns : goal.returns
returns c = checks_end
