use Rattle.conflict.proofs.Tells.{checks_tell}
use Rattle.conflict.proofs.laws.checks_tell.Goals as goal

pub returns : goal.returns
returns c = checks_tell
