use Rattle.list_walk.proofs.Falling.{upload_laws}
use Rattle.list_walk.proofs.laws.upload_walks_end.Goals as goal

pub returns : goal.returns
returns c = upload_laws
