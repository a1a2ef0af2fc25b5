use Rattle.job_world.proofs.KeptWorlds.{scene_is}
use Rattle.job_world.specs.Worlds.{Run}
use Rattle.s3_types.specs.Moment.{moment}
use Rattle.s3_types.specs.Store.{Scene}
use Rattle.std.proofs.Common.{ap, length, subst, ◌∙◌, ◌≡◌}
use Rattle.job_world.proofs.world.World.service.Goals as goal

pub returns : goal.returns
returns g c =
    subst (λ (r : Run). c.service.result.now ≡ (moment r.opening r.journal (length r.journal)).content) c.self.view_is
    (c.service.ensures ∙ ap (λ (s : Scene). s.content) (scene_is g.W.Acts.wants g.W.Works.is_of g.W.Works.running g.W.Works.picks_of
    c.self.inside.body c.self.invariant))
