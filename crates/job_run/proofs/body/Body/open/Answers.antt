use Rattle.std.proofs.Common.{refl}
use Rattle.job_run.proofs.body.Body.open.Goals as goal

pub returns : goal.returns
returns g c = record { is = refl; stands = λ p. c.open.ensures.stands p }
