use Rattle.job_spec.specs.Promise.{Finished}
use Rattle.job_world.proofs.KeptWorlds.{finished, keeps, scene_is}
use Rattle.job_world.specs.Worlds.{Keeps, Run}
use Rattle.s3_types.specs.Moment.{moment}
use Rattle.s3_types.specs.Store.{Scene}
use Rattle.std.proofs.Common.{ap, length, subst, ◌∙◌, ◌≡◌}
use Rattle.job_world.proofs.world.World.finish.Goals as goal

pub returns-clause-keeps : goal.returns-clause-keeps
returns-clause-keeps g c = subst Keeps c.self.view_is (keeps g.W.Acts.wants g.W.Works.is_of g.W.Works.running g.W.Works.picks_of
    c.self.inside.body c.self.invariant c.laws.ensures.has_picks c.self.inside.stuck)

pub returns-clause-finished : goal.returns-clause-finished
returns-clause-finished g c =
    subst (λ (r : Run). length r.ends ≡ length r.script.events → Finished r.script r.opening r.journal r.picks r.ends) c.self.view_is
    (finished g.W.Acts.wants g.W.Works.is_of g.W.Works.running g.W.Works.picks_of c.self.inside.body c.self.invariant
    c.laws.ensures.has_picks)

pub returns-clause-service : goal.returns-clause-service
returns-clause-service g c =
    subst (λ (r : Run). c.left_by.result.service ≡ (moment r.opening r.journal (length r.journal)).content) c.self.view_is
    (c.left_by.ensures.service ∙ ap (λ (s : Scene). s.content) (scene_is g.W.Acts.wants g.W.Works.is_of g.W.Works.running g.W.Works.picks_of
    c.self.inside.body c.self.invariant))
