-- A job keeps, between its events, what no stranger can break.
use Rattle.job_actor.specs.Picks.{is_job_commit}
use Rattle.job_model.specs.Known.{Known}
use Rattle.job_model.specs.declared.ends.Pick.{Pick}
use Rattle.job_protocol.specs.Operations.{Running, Setting}
use Rattle.job_safety.proofs.Ending.{ahead_none}
use Rattle.job_run.proofs.Picked.{hand_put}
use Rattle.job_run.proofs.Places.{there}
use Rattle.job_run.specs.Events.{picks_in}
use Rattle.job_run.specs.Holds.{HandIs, PutBy, Quiet, seen_by, setting_of}
use Rattle.job_run.specs.declared.body.Body.{Body}
use Rattle.job_run.specs.declared.hands.Hand.{Hand}
use Rattle.job_spec.specs.Promise.{ArePicked, all_picks, lacked_memory}
use Rattle.script_steps.specs.Transitions.{Play}
use Rattle.s3_types.specs.Store.{Content}
use Rattle.s3_types.specs.declared.request.Actor.{Actor}
use Rattle.s3_types.specs.declared.request.Actor.TheVariants.{Driver}
use Rattle.s3_types.specs.declared.request.Request.{Request}
use Rattle.std.proofs.Common.{List, None, Option, Some, arith, false, length, refl, slice_get, sym, ◌<◌, ◌∙◌, ◌≡◌}
use Rattle.std.specs.Prelude.{is_some}
use Rattle.job_safety.specs.RunsKeep as laws
use Rattle.job_safety.proofs.Kept as kept

-- ---- picks

-- These are the first of all picks that the journal shows, and all of them unless the job's commit ran out of memory.
pub record AreTold (x : Play) (all ps : List Pick) : Type 0 where
  pub first : ArePicked ps all
  pub whole : lacked_memory x.live.commit ≡ false → ps ≡ all

-- An operation has picks exactly if it is the job's commit.
abbrev pub HasPicks : {W : Type 0} → (Known → W → Running) → (W → Option (List Pick)) → Type 0
HasPicks running picks_of = (k : Known) (work : _) → is_some (picks_of work) ≡ is_job_commit (running k work).operation

module _ {W : Type 0} (is_of : Setting → Actor → W → Type 0) (running : Known → W → Running) (picks_of : W → Option (List Pick))
    (has : HasPicks running picks_of) (g : Setting) (opening : Content) (x : Play) (idle : x.now ≡ None) (ps : List Pick)
    (put : PutBy g opening x ps) where
  pub told_in : (h : Hand W) → HandIs is_of running picks_of g opening x Driver h
      → AreTold x (all_picks g.script opening x.journal x.ends) (picks_in picks_of ps (Some h))
  told_in h is =
      let p = hand_put g opening x is_of running picks_of has ps put h is in record
      { first = p.first x.ends (ahead_none x idle); whole = λ m. p.all m x.ends (ahead_none x idle) }

-- ---- a job

module _ {W : Type 0} (wants : W → Option Request) (is_of : Setting → Actor → W → Type 0) (running : Known → W → Running)
    (picks_of : W → Option (List Pick)) (b : Body W) (q : Quiet wants is_of running picks_of b) (has : HasPicks running picks_of) where
  idle : q.holds.play.now ≡ None
  idle = sym q.holds.now ∙ q.idle

  some_hands : 0 < length b.side.hands.items
  some_hands = omega (arith, q.holds.places)

  pub told : AreTold q.holds.play (all_picks b.side.script b.shared.opening q.holds.play.journal q.holds.play.ends)
      (picks_in picks_of b.side.picks (slice_get b.side.hands.items 0))
  told =
      let h = there b.side.hands.items 0 some_hands in
      rw h.1 (told_in is_of running picks_of has (setting_of b) b.shared.opening q.holds.play idle b.side.picks q.holds.picks h.0
      (q.holds.hands 0 Driver h.0 refl refl h.1))

  pub kept_among : laws.KeptAmong (setting_of b) b.shared.opening (seen_by b)
      (picks_in picks_of b.side.picks (slice_get b.side.hands.items 0)) b.side.ends.items
  kept_among =
      rw (q.holds.journal, q.holds.ends)
      (kept.kept_among (setting_of b) b.shared.opening q.holds.play q.holds.legal q.holds.opens q.holds.happened idle
      (picks_in picks_of b.side.picks (slice_get b.side.hands.items 0)) told.first)
