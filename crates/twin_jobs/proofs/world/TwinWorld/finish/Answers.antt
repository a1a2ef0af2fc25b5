use Rattle.s3_types.specs.Store.{Scene}
use Rattle.std.proofs.Common.{ap, ◌∙◌}
use Rattle.twin_jobs.proofs.Turning.{pair_hands, pair_keeps, pair_scene}
use Rattle.twin_jobs.proofs.world.TwinWorld.finish.Goals as goal

pub left_by-requires-clause-moving : goal.left_by-requires-clause-moving
left_by-requires-clause-moving g c = (pair_hands g.W.Works.picks_of g.W.Acts.wants g.W.Works.is_of g.W.Works.running c.self.inside.pair
    c.self.invariant).0

pub left_by-requires-clause-other : goal.left_by-requires-clause-other
left_by-requires-clause-other g c = (pair_hands g.W.Works.picks_of g.W.Acts.wants g.W.Works.is_of g.W.Works.running c.self.inside.pair
    c.self.invariant).1

pub returns : goal.returns
returns g c =
    rw (← c.self.view_is)
    (record {
      service =
          c.left_by.ensures.service ∙ ap (λ (s : Scene). s.content)
          (pair_scene g.W.Works.picks_of g.W.Acts.wants g.W.Works.is_of g.W.Works.running c.self.inside.pair c.self.invariant);
      journal = ap (λ j. j.entries) c.left_by.ensures.journal;
      first = c.left_by.ensures.first;
      second = c.left_by.ensures.second;
      sides = c.left_by.ensures.sides;
      keeps =
          pair_keeps g.W.Works.picks_of g.W.Acts.wants g.W.Works.is_of g.W.Works.running c.laws.ensures.has_picks c.shared.ensures.kept
          c.self.inside.pair c.self.inside.stuck
          c.self.invariant;
    })
