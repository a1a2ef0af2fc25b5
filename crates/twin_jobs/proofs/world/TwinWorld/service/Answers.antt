use Rattle.s3_types.specs.Store.{Scene}
use Rattle.std.proofs.Common.{ap, ◌∙◌}
use Rattle.twin_jobs.proofs.Turning.{pair_scene}
use Rattle.twin_jobs.proofs.world.TwinWorld.service.Goals as goal

pub returns : goal.returns
returns g c =
    rw (← c.self.view_is)
    (c.service.ensures ∙ ap (λ (s : Scene). s.content) (pair_scene g.W.Works.picks_of g.W.Acts.wants g.W.Works.is_of g.W.Works.running
    c.self.inside.pair c.self.invariant))
