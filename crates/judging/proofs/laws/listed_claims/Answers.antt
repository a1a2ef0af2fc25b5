use Rattle.judging.proofs.Listed.{listed_claims}
use Rattle.judging.proofs.laws.listed_claims.Goals as goal

pub returns : goal.returns
returns g c = listed_claims _
