use Rattle.job_spec.proofs.Told.{alone, eyes_moment, eyes_honest, eyes_rising}
use Rattle.job_spec.proofs.eyes.Goals as goal

pub returns : goal.returns
returns c = record { faithful = record { alone = alone; scene = eyes_moment; honest = eyes_honest; rising = eyes_rising } }
