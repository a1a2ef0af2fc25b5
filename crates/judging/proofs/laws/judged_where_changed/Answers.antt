use Rattle.judging.proofs.Changed.{where_changed}
use Rattle.judging.proofs.laws.judged_where_changed.Goals as goal

pub returns : goal.returns
returns g c = where_changed _
