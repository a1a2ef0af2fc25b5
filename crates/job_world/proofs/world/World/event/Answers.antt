use Rattle.job_world.proofs.KeptWorlds.{alone_after, alone_before, counts_is, its_turn, keeps, still_alone, went_on}
use Rattle.job_world.specs.Worlds.{Keeps, Run, WentOn, run_of}
use Rattle.std.proofs.Common.{Some, length, slice_get, subst, sym, true, ◌≡◌}
use Rattle.job_world.proofs.world.World.event.Goals as goal

pub event-requires-clause-turn : goal.event-requires-clause-turn
event-requires-clause-turn g c =
    its_turn g.W.Acts.wants g.W.Works.is_of g.W.Works.running g.W.Works.picks_of c.self.inside.body c.self.invariant c.args.event.now
    (subst (λ (r : Run). slice_get r.script.events (length r.ends) ≡ Some c.args.event.now) (sym c.self.view_is) c.requires.next)

pub invariant_of-self : goal.invariant_of-self
invariant_of-self g c = record {
  quiet = c.event.ensures.quiet;
  alone = alone_after g.W.Works.picks_of c.self.inside.body c.event.new.self
      c.event.result c.self.invariant.alone c.event.ensures.grown c.event.ensures.err;
}

pub returns-then-self-clause-keeps : goal.returns-then-self-clause-keeps
returns-then-self-clause-keeps g c = subst Keeps c.self.view_is (keeps g.W.Acts.wants g.W.Works.is_of g.W.Works.running g.W.Works.picks_of
    c.self.inside.body c.self.invariant c.laws.ensures.has_picks c.self.inside.stuck)

pub returns-in-Ok-clause-keeps : goal.returns-in-Ok-clause-keeps
returns-in-Ok-clause-keeps g c = keeps g.W.Acts.wants g.W.Works.is_of g.W.Works.running g.W.Works.picks_of c.event.new.self
    (record {
      quiet = c.event.ensures.quiet;
      alone = still_alone g.W.Works.picks_of c.self.inside.body c.event.new.self
          c.self.invariant.alone c.in-Ok.ensures.grown;
    }) c.laws.ensures.has_picks c.self.inside.stuck

pub returns-in-Ok-clause-ok : goal.returns-in-Ok-clause-ok
returns-in-Ok-clause-ok g c =
    subst (λ (r : Run). WentOn r (run_of g.W.Works.picks_of c.event.new.self c.self.inside.stuck)) c.self.view_is
    (went_on g.W.Works.picks_of c.self.inside.body c.event.new.self c.self.inside.stuck
    (counts_is g.W.Acts.wants g.W.Works.is_of g.W.Works.running g.W.Works.picks_of c.self.inside.body c.self.invariant)
    c.in-Ok.ensures.grown)

pub returns-in-Err-clause-keeps : goal.returns-in-Err-clause-keeps
returns-in-Err-clause-keeps g c = keeps g.W.Acts.wants g.W.Works.is_of g.W.Works.running g.W.Works.picks_of c.event.new.self
    (record {
      quiet = c.event.ensures.quiet;
      alone = alone_before g.W.Works.picks_of c.self.inside.body c.event.new.self
          c.self.invariant.alone c.in-Err.ensures.err;
    }) c.laws.ensures.has_picks true
