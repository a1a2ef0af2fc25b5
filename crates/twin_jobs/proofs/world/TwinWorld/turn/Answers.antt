use Rattle.std.proofs.Common.{None, Some, length, refl, slice_get, subst, sym, true, ◌∙◌, ◌≡◌}
use Rattle.twin_jobs.proofs.Turning.{found_none, pair_keeps, played_run, turn_is, used_up}
use Rattle.twin_jobs.specs.Worlds.{Run, played}
use Rattle.twin_jobs.proofs.world.TwinWorld.turn.Goals as goal

pub returns-then-self-clause-keeps : goal.returns-then-self-clause-keeps
returns-then-self-clause-keeps g c =
    rw (← c.self.view_is)
    (pair_keeps g.W.Works.picks_of g.W.Acts.wants g.W.Works.is_of g.W.Works.running c.laws.ensures.has_picks c.shared.ensures.kept
    c.self.inside.pair c.self.inside.stuck
    c.self.invariant)

pub returns-in_default-clause-keeps : goal.returns-in_default-clause-keeps
returns-in_default-clause-keeps g c =
    rw (← c.self.view_is)
    (pair_keeps g.W.Works.picks_of g.W.Acts.wants g.W.Works.is_of g.W.Works.running c.laws.ensures.has_picks c.shared.ensures.kept
    c.self.inside.pair c.self.inside.stuck
    c.self.invariant)

pub returns-in_default-clause-ok : goal.returns-in_default-clause-ok
returns-in_default-clause-ok g c = (
  refl,
  subst (λ (r : Run). slice_get r.sides (played r) ≡ None → played r ≡ length r.sides) c.self.view_is
      (used_up g.W.Works.picks_of g.W.Acts.wants g.W.Works.is_of g.W.Works.running c.self.inside.pair c.self.inside.stuck
      c.self.invariant) (sym c.next.ensures ∙ c.in_default.is),
)

pub play-requires-clause-turn : goal.play-requires-clause-turn
play-requires-clause-turn g c =
    turn_is g.W.Works.picks_of g.W.Acts.wants g.W.Works.is_of g.W.Works.running c.self.inside.pair c.self.inside.stuck c.in-Some.side
    c.self.invariant
    (subst (λ (r : Run). slice_get r.sides (played r) ≡ Some c.in-Some.side) (sym c.self.view_is) (sym c.next.ensures ∙ c.in-Some.is))

pub returns-in-Ok-clause-keeps : goal.returns-in-Ok-clause-keeps
returns-in-Ok-clause-keeps g c = pair_keeps g.W.Works.picks_of g.W.Acts.wants g.W.Works.is_of g.W.Works.running c.laws.ensures.has_picks
    c.shared.ensures.kept c.play.new.self c.self.inside.stuck c.play.ensures.rests

pub returns-in-Ok-clause-ok : goal.returns-in-Ok-clause-ok
returns-in-Ok-clause-ok g c =
    rw (← c.self.view_is)
    (played_run g.W.Works.picks_of g.W.Acts.wants g.W.Works.is_of g.W.Works.running c.self.inside.pair c.play.new.self c.self.inside.stuck
    c.self.invariant c.in-Some.side (subst (λ (r : Run). slice_get r.sides (played r) ≡ Some c.in-Some.side) (sym c.self.view_is)
    (sym c.next.ensures ∙ c.in-Some.is)) c.in-Ok.ensures.ok)

pub returns-in-Err-clause-keeps : goal.returns-in-Err-clause-keeps
returns-in-Err-clause-keeps g c = pair_keeps g.W.Works.picks_of g.W.Acts.wants g.W.Works.is_of g.W.Works.running c.laws.ensures.has_picks
    c.shared.ensures.kept c.play.new.self true c.play.ensures.rests

pub returns-in-Err-clause-err : goal.returns-in-Err-clause-err
returns-in-Err-clause-err g c =
    rw (← c.self.view_is)
    (found_none g.W.Works.picks_of c.in-Some.side c.self.inside.pair c.play.new.self c.self.inside.stuck c.in-Err.ensures.err)
