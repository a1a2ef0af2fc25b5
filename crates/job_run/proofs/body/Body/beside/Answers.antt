use Rattle.job_run.proofs.Beside.{rests_beside}
use Rattle.job_run.proofs.body.Body.beside.Goals as goal

pub returns : goal.returns
returns g c = rests_beside g.W.Acts.wants g.W.Works.is_of g.W.Works.running g.W.Works.picks_of
