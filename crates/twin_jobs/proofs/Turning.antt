-- What callers see of a pair and of its turns.
use Rattle.text_and_lists.proofs.Members.{none_some}
use Rattle.job_model.specs.Known.{Known}
use Rattle.job_model.specs.declared.ends.Pick.{Pick}
use Rattle.job_protocol.specs.Operations.{Running, Setting}
use Rattle.job_run.proofs.KeptSides.{HasPicks}
use Rattle.job_run.proofs.Places.{there}
use Rattle.job_run.specs.Events.{IsAsBefore, picks_in}
use Rattle.job_run.specs.Holds.{AreOf, Quiet}
use Rattle.job_run.specs.declared.body.Body.{Body}
use Rattle.job_run.specs.declared.body.Shared.{Shared}
use Rattle.job_spec.specs.States.{Past, past}
use Rattle.job_states.specs.Stands.{Stands}
use Rattle.s3_types.specs.Moment.{moment}
use Rattle.s3_types.specs.declared.journal.Entry.{Entry}
use Rattle.s3_types.specs.declared.request.Actor.{Actor}
use Rattle.s3_types.specs.declared.request.Request.{Request}
use Rattle.std.proofs.Common.{Bool, List, None, Option, Some, ap, arith, inl, inr, length, refl, slice_get, subst, sym, true, ℕ, [], ◌+◌}
use Rattle.std.proofs.Common.{◌<◌, ◌∙◌, ◌∷◌, ◌≡◌, ◌≤◌}
use Rattle.std.proofs.lemmas.Bool.{cases_lt}
use Rattle.std.specs.List.{AllByRecursion}
use Rattle.twin_jobs.proofs.Whole.{keeps, played_is, scene_is, state_is}
use Rattle.twin_jobs.specs.Pairs.{job_in, run_of, side_by, side_in}
use Rattle.twin_jobs.specs.inner.Pairs.{IsPlayed, IsUnplayed, Rests, RestsBoth, over}
use Rattle.twin_jobs.specs.Worlds.{FoundNone, JobRun, Keeps, Played, Run, job_of, played}
use Rattle.twin_jobs.specs.declared.pair.Pair.{Pair}
use Rattle.twin_safety.specs.Shared.{RunsAreKeptShared}
use Rattle.twin_script.specs.declared.turns.Side.{Side}
use Rattle.twin_script.specs.declared.turns.Side.TheVariants.{First, Second}
use Rattle.job_run.specs.declared.body.JobRun as body

-- The entries of an event all have its number.
numbered : (n m : ℕ) (es : List Entry) → n ≡ m → AreOf n es → AllByRecursion (λ e. e.event ≡ m) es
numbered n m [] same h = tt
numbered n m (e ∷ es) same h = (h.0.0 ∙ same, numbered n m es same h.1)

none_past : {X : Type 0} (xs : List X) (n : ℕ) → slice_get xs n ≡ None → length xs ≤ n
none_past xs n e = elim (cases_lt n (length xs)) [ inl lt ↦ absurd (none_some e (there xs n lt).1) | inr le ↦ le ]

module _ {W : Type 0} (picks_of : W → Option (List Pick)) where
  -- What callers see of a pair.
  abbrev pub seen : Pair W → Bool → Run
  seen p stuck = run_of picks_of p.sides.items (side_in First p) (side_in Second p) p.body.shared stuck

  pub job_side : (p : Pair W) (stuck : Bool) (side : Side) → job_of (seen p stuck) side ≡ job_in picks_of (side_in side p)
  job_side p stuck First = refl
  job_side p stuck Second = refl

  -- ---- an event before which memory ran out changes nothing

  job_before : (s t : body.JobRun W) (old new : Shared) → IsAsBefore (over s old) (over t new) → job_in picks_of t ≡ job_in picks_of s
  job_before s t old new h = λ i. record {
    script = h.script i;
    picks = picks_in picks_of (h.picks i) (slice_get (h.hands i).items 0);
    ends = h.ends i;
  }

  all_before : (p q : Pair W) (stuck : Bool) → job_of (seen q true) First ≡ job_of (seen p stuck) First
      → job_of (seen q true) Second ≡ job_of (seen p stuck) Second → q.sides ≡ p.sides → q.body.shared ≡ p.body.shared
      → seen q true ≡ record (seen p stuck) { stuck = true }
  all_before p q stuck first second sides shared =
      λ i. record {
        first = first i;
        second = second i;
        sides = (sides i).items;
        opening = (shared i).opening;
        journal =
            (shared i).journal.entries;
        stuck = true;
      }

  pub found_none : (side : Side) (p q : Pair W) (stuck : Bool) → IsUnplayed side p q → FoundNone (seen p stuck) (seen q true)
  found_none First p q stuck h = record {
    is = all_before p q stuck (job_before (side_in First p) (side_in First q) p.body.shared
        q.body.shared h.before) (ap (job_in picks_of) h.other) h.sides h.before.shared;
  }
  found_none Second p q stuck h = record {
    is = all_before p q stuck (ap (job_in picks_of) h.other)
        (job_before (side_in Second p) (side_in Second q) p.body.shared q.body.shared h.before) h.sides h.before.shared;
  }

  module _ (wants : W → Option Request) (is_of : Setting → Actor → W → Type 0) (running : Known → W → Running) where
    -- ---- which event is next

    pub events_are : (p : Pair W) (stuck : Bool) → Rests wants is_of running picks_of p → p.body.shared.events ≡ played (seen p stuck)
    events_are p stuck r = played_is wants is_of running picks_of p.sides.items (side_in First p) (side_in Second p) p.body.shared r

    pub next_is : (p : Pair W) (stuck : Bool) (o : Option Side) → Rests wants is_of running picks_of p
        → o ≡ slice_get p.sides.items p.body.shared.events → o ≡ slice_get (seen p stuck).sides (played (seen p stuck))
    next_is p stuck o r e = e ∙ ap (slice_get p.sides.items) (events_are p stuck r)

    pub turn_is : (p : Pair W) (stuck : Bool) (side : Side) → Rests wants is_of running picks_of p
        → slice_get (seen p stuck).sides (played (seen p stuck)) ≡ Some side → slice_get p.sides.items p.body.shared.events ≡ Some side
    turn_is p stuck side r e = ap (slice_get p.sides.items) (events_are p stuck r) ∙ e

    -- ---- an event was played

    module _ (p q : Pair W) (stuck : Bool) (r : Rests wants is_of running picks_of p) where
      part_of : (part : List Entry) → AreOf (p.body.shared.events + 1) part → AllByRecursion (λ e. e.event ≡ played (seen p stuck) + 1) part
      part_of part h = numbered (p.body.shared.events + 1) (played (seen p stuck) + 1) part (ap (λ n. n + 1) (events_are p stuck r)) h

      pub played_run : (side : Side) → slice_get (seen p stuck).sides (played (seen p stuck)) ≡ Some side → IsPlayed side p q
          → Played (seen p stuck) (seen q stuck) side
      played_run First turn h =
          search (
            turn,
            ap (job_in picks_of) h.other,
            ap (λ v. v.items) h.sides,
            part_of h.grown.more.0 h.grown.more.2,
            h.grown,
            h.grown.stays,
          )
      played_run Second turn h =
          search (
            turn,
            ap (job_in picks_of) h.other,
            ap (λ v. v.items) h.sides,
            part_of h.grown.more.0 h.grown.more.2,
            h.grown,
            h.grown.stays,
          )

    -- ---- the hands

    hands_of : {b : Body W} → Quiet wants is_of running picks_of b → 0 < length b.side.hands.items
    hands_of {b = b} q = omega (arith, q.holds.places)

    -- ---- all together

    pub pair_keeps : HasPicks running picks_of → RunsAreKeptShared → (p : Pair W) (stuck : Bool) → Rests wants is_of running picks_of p
        → Keeps (seen p stuck)
    pair_keeps has law p stuck r = keeps wants is_of running picks_of has law p.sides.items (side_in First p) (side_in Second p)
        p.body.shared r stuck

    pub pair_scene : (p : Pair W) → Rests wants is_of running picks_of p
        → p.body.shared.store.scene ≡ moment p.body.shared.opening p.body.shared.journal.entries (length p.body.shared.journal.entries)
    pair_scene p r = scene_is wants is_of running picks_of (over (side_in First p) p.body.shared) r.first.quiet

    held_hands : (sides : List Side) (m : Side) (b : Body W) (o : body.JobRun W)
        → RestsBoth wants is_of running picks_of sides (side_by First m b.side o) (side_by Second m b.side o) b.shared
        → (0 < length b.side.hands.items) × (0 < length o.hands.items)
    held_hands sides First b o r = (hands_of r.first.quiet, hands_of r.second.quiet)
    held_hands sides Second b o r = (hands_of r.second.quiet, hands_of r.first.quiet)

    -- Both sides have hands.
    pub pair_hands : (p : Pair W) → Rests wants is_of running picks_of p → (0 < length p.body.side.hands.items)
        × (0 < length p.other.hands.items)
    pair_hands p r = held_hands p.sides.items p.moving p.body p.other r

    -- If no event is next, the order has no more events.
    pub used_up : (p : Pair W) (stuck : Bool) → Rests wants is_of running picks_of p
        → slice_get (seen p stuck).sides (played (seen p stuck)) ≡ None → played (seen p stuck) ≡ length (seen p stuck).sides
    used_up p stuck r none = omega (arith, none_past p.sides.items (played (seen p stuck)) none, r.common.few, events_are p stuck r)

    -- ---- one side, as callers see it

    side_quiet : (p : Pair W) (side : Side) → Rests wants is_of running picks_of p
        → Quiet wants is_of running picks_of (over (side_in side p) p.body.shared)
    side_quiet p First r = r.first.quiet
    side_quiet p Second r = r.second.quiet

    module _ (p : Pair W) (stuck : Bool) (side : Side) (s : body.JobRun W) (is : s ≡ side_in side p) where
      job_is : job_in picks_of s ≡ job_of (seen p stuck) side
      job_is = ap (job_in picks_of) is ∙ sym (job_side p stuck side)

      pub past_is : Rests wants is_of running picks_of p → {S : Type 0} (read : Past → S) (result : S)
          → ((q : Past) → Stands s.script s.states q → result ≡ read q)
          → result ≡ read (past (job_of (seen p stuck) side).script (job_of (seen p stuck) side).ends)
      past_is r read result h =
          subst (λ (j : JobRun). result ≡ read (past j.script j.ends)) job_is
          (state_is wants is_of running picks_of s p.body.shared (subst
          (λ (t : body.JobRun W). Quiet wants is_of running picks_of (over t p.body.shared)) (sym is) (side_quiet p side r)) read result
          h)
