use Rattle.job_run.proofs.KeptSides.{kept_among}
use Rattle.job_run.proofs.body.Body.keeps.Goals as goal

pub returns : goal.returns
returns g c = kept_among g.W.Acts.wants g.W.Works.is_of g.W.Works.running g.W.Works.picks_of c.args.self.now c.requires
    c.laws.ensures.has_picks
