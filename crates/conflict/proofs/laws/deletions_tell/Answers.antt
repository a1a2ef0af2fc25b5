use Rattle.conflict.proofs.Tells.{deletions_tell}
use Rattle.conflict.proofs.laws.deletions_tell.Goals as goal

pub returns : goal.returns
returns c = deletions_tell
