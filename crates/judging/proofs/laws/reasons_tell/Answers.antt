use Rattle.judging.proofs.Reasons.{reasons_tell}
use Rattle.judging.proofs.laws.reasons_tell.Goals as goal

pub returns : goal.returns
returns g c = reasons_tell _
