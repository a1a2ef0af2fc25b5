use Rattle.cleanup.proofs.SparingFalls.{sparings_end}
use Rattle.cleanup.proofs.laws.sparings_end.Goals as goal

pub returns : goal.returns
returns c = sparings_end
