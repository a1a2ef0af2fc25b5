-- Events in which busy actors send, or nobody: what their turns and their ends need.
use Rattle.text_and_lists.proofs.Members.{none_some}
use Rattle.job_model.specs.Attempts.{is_known}
use Rattle.job_model.specs.JobScript.{Script}
use Rattle.job_model.specs.Known.{Known}
use Rattle.job_model.specs.Legal.{IsEvent}
use Rattle.job_model.specs.declared.ends.Pick.{Pick}
use Rattle.job_model.specs.declared.events.Event.{Event}
use Rattle.job_model.specs.declared.events.Event.TheVariants.{Do, Mix, Run, Start, Step}
use Rattle.job_model.specs.declared.states.ActorState.{ActorState}
use Rattle.job_model.specs.declared.states.Life.{Life}
use Rattle.job_model.specs.declared.states.Life.TheVariants.{Busy}
use Rattle.job_protocol.specs.Operations.{Running, Setting}
use Rattle.job_run.proofs.Busy.{busy_apart, busy_few, busy_going}
use Rattle.job_run.proofs.Standings.{busy_at, placed}
use Rattle.job_run.specs.inner.Events.{AreBusy, BeginsNone, HasEntered, IsStill}
use Rattle.job_run.specs.Holds.{is_busy_at}
use Rattle.job_run.specs.declared.body.Body.{Body}
use Rattle.job_spec.specs.States.{Past, actors, open_event, past, refusal, refuse_move}
use Rattle.job_spec.specs.Turns.{busy_actors, is_busy}
use Rattle.job_states.specs.Mixes.{AreApart}
use Rattle.job_states.specs.Stands.{IsPlace, Stands}
use Rattle.s3_types.specs.declared.request.Actor.{Actor}
use Rattle.s3_types.specs.declared.request.Request.{Request}
use Rattle.std.proofs.Common.{List, None, Option, Some, ap, arith, length, map, refl, slice_get, subst, sym, true, vec_capacity, vec_len, ℕ}
use Rattle.std.proofs.Common.{◌-◌, ◌<◌, ◌∙◌, ◌≡◌, ◌≤◌}

-- ---- events by what they are

move_busy : (l : Life) → refuse_move l ≡ None → is_busy l ≡ true
move_busy Busy h = refl
move_busy _ h = absurd (none_some h refl)

-- The event changes no actor's state as it begins.
abbrev pub Stays : Event → Type 0
Stays ev = (w : Script) (p : Past) → open_event w p ev ≡ p

-- A busy actor sends in the event.
pub record Moves (ev : Event) (a : Actor) : Type 0 where
  pub none : BeginsNone ev
  pub stays : Stays ev
  pub known : (w : Script) → IsEvent w.attempts ev → is_known w.attempts a ≡ true
  pub busy : (st : Actor → ActorState) → refusal st ev ≡ None → is_busy (st a).life ≡ true

pub run_moves : (ev : Event) (a : Actor) → ev ≡ Run a → Moves ev a
run_moves ev a is = subst (λ v. Moves v a) (sym is) (record
    { none = tt; stays = λ w p. refl; known = λ w h. h; busy = λ st. move_busy (st a).life })

pub step_moves : (ev : Event) (a : Actor) (n : ℕ) → ev ≡ Step a n → Moves ev a
step_moves ev a n is = subst (λ v. Moves v a) (sym is) (record
    { none = tt; stays = λ w p. refl; known = λ w h. h.0; busy = λ st. move_busy (st a).life })

pub mix_stays : (ev : Event) (seed : ℕ) → ev ≡ Mix seed → Stays ev
mix_stays ev seed is w p = ap (open_event w p) is

pub mix_none : (ev : Event) (seed : ℕ) → ev ≡ Mix seed → BeginsNone ev
mix_none ev seed is = subst BeginsNone (sym is) tt

pub still_none : (ev : Event) → IsStill ev → BeginsNone ev
still_none (Do a op) h = absurd h
still_none (Start a op) h = absurd h
still_none _ h = tt

-- ---- a body in which such an event is in progress

module _ {W : Type 0} (wants : W → Option Request) (is_of : Setting → Actor → W → Type 0) (running : Known → W → Running)
    (picks_of : W → Option (List Pick)) (ev : Event) (b c : Body W) (e : HasEntered wants is_of running picks_of ev b c) where
  pub place_entered : (a : Actor) (place : ℕ) → IsPlace b.side.script a (Some place) → slice_get (actors c.side.script) place ≡ Some a
  place_entered a place at = ap (λ (w : Script). slice_get (actors w) place) e.entered.stays.script ∙ placed b.side.script a place at

  pub room_entered : 0 < vec_capacity c.side.finished - vec_len c.side.finished
  room_entered = omega (arith, e.going.holds.places, e.room.finished)

  module _ (stays : Stays ev) where
    stands : Stands c.side.script c.side.states (past c.side.script c.side.ends.items)
    stands = subst (Stands c.side.script c.side.states) (stays c.side.script (past c.side.script c.side.ends.items)) e.stands

    pub busy_entered : (a : Actor) (place : ℕ) → IsPlace b.side.script a (Some place)
        → is_busy ((past c.side.script c.side.ends.items).state a).life ≡ true → is_busy_at c.side.states.actors place ≡ true
    busy_entered a place at busy = busy_at c.side.script c.side.states (past c.side.script c.side.ends.items) stands place a
        (place_entered a place at) ∙ busy

    -- ---- a mix

    module _ (places : List ℕ) (busy : AreBusy b places) where
      pub mix_busy : AreBusy c places
      mix_busy =
          subst (λ (w : Script). map (slice_get (actors w)) places ≡ map (λ x. Some x) (busy_actors w (past w c.side.ends.items).state))
          (sym e.entered.stays.script)
          (subst (λ v. map (slice_get (actors b.side.script)) places ≡ map (λ x. Some x)
          (busy_actors b.side.script (past b.side.script v.items).state)) (sym e.entered.ends) busy)

      pub mix_apart : AreApart places
      mix_apart = busy_apart c.side.script e.going.holds.legal c.side.states (past c.side.script c.side.ends.items) stands places mix_busy

      pub mix_going : (i p : ℕ) → slice_get places i ≡ Some p → is_busy_at c.side.states.actors p ≡ true
      mix_going = busy_going c.side.script e.going.holds.legal c.side.states (past c.side.script c.side.ends.items) stands places mix_busy

      pub mix_room : length places ≤ vec_capacity c.side.finished - vec_len c.side.finished
      mix_room =
          let few = busy_few c.side.script e.going.holds.legal c.side.states (past c.side.script c.side.ends.items) stands places mix_busy
          in
          let same = e.going.holds.places in
          let free = e.room.finished in
          omega arith
