-- An event begins. Then all holds, except for the hand of an actor that begins an operation.
use Rattle.text_and_lists.proofs.Members.{false_true, nat_true, true_or_false}
use Rattle.job_model.specs.Known.{Known}
use Rattle.job_model.specs.declared.ends.Pick.{Pick}
use Rattle.job_model.specs.declared.events.Event.{Event}
use Rattle.job_model.specs.declared.events.Event.TheVariants.{Do, Start}
use Rattle.job_model.specs.declared.events.Op.{Op}
use Rattle.job_model.specs.declared.states.ActorState.{ActorState}
use Rattle.job_protocol.specs.Operations.{Running, Setting}
use Rattle.job_run.proofs.Kept.{Leaves, Spares, begins_by, hand_kept, open_leaves, put_by_kept}
use Rattle.job_run.proofs.Moments.{busy_of, is_idle, live_of, may_open, no_entries, past_of}
use Rattle.job_run.proofs.Standings.{busy_actor}
use Rattle.job_run.specs.Events.{Next}
use Rattle.job_run.specs.inner.Events.{BeginsBy, BeginsNone, HasEntered, HasRoom, IsFine, IsOpened}
use Rattle.job_run.specs.Holds.{HandsAre, Holds, IsTurn, PutBy, Quiet, all_but, all_sound, is_busy_at, setting_of}
use Rattle.job_run.specs.declared.body.Body.{Body}
use Rattle.job_spec.specs.States.{Past, actors, open_event}
use Rattle.job_spec.specs.Turns.{is_busy}
use Rattle.job_states.specs.Stands.{Stands}
use Rattle.script_steps.proofs.Actors.{put_here}
use Rattle.script_steps.specs.Transitions.{Opens, Play, happen, happens}
use Rattle.s3_types.specs.declared.request.Actor.{Actor}
use Rattle.s3_types.specs.declared.request.Actor.TheVariants.{Driver}
use Rattle.s3_types.specs.declared.request.Request.{Request}
use Rattle.std.proofs.Common.{Bool, List, None, Option, Some, ap, inl, inr, length, not, refl, slice_get, subst, sym, true, ℕ, ◌∙◌, ◌≡◌}

pub spares_others : (ev : Event) (a : Actor) (op : Op) → BeginsBy ev a op → (q : Actor) → (q ≡ a → ⊥) → Spares ev q
spares_others = begins_by (λ ev a op. (q : Actor) → (q ≡ a → ⊥) → Spares ev q) (λ a op q ne. ne) (λ a op q ne. ne)

pub spares_all : (ev : Event) → BeginsNone ev → (q : Actor) → Spares ev q
spares_all (Do b o) h q = absurd h
spares_all (Start b o) h q = absurd h
spares_all _ h q = tt

pub begun_busy : (g : Setting) (p : Past) (ev : Event) (a : Actor) (op : Op) → BeginsBy ev a op
    → is_busy ((open_event g.script p ev).state a).life ≡ true
begun_busy g p =
    begins_by (λ ev a op. is_busy ((open_event g.script p ev).state a).life ≡ true)
    (λ a op. ap (λ (s : ActorState). is_busy s.life) (put_here p.state a _ a refl))
    (λ a op. ap (λ (s : ActorState). is_busy s.life) (put_here p.state a _ a refl))

-- A place that is not left out is another one than the one left out.
pub not_left : (p q : ℕ) → all_but p q ≡ true → q ≡ p → ⊥
not_left p q h e = false_true (ap not (nat_true q p e)) h

module _ {W : Type 0} (wants : W → Option Request) (is_of : Setting → Actor → W → Type 0) (running : Known → W → Running)
    (picks_of : W → Option (List Pick)) (b : Body W) (q : Quiet wants is_of running picks_of b) (ev : Event) (next : Next b ev)
    (fine : IsFine b ev) (turn : IsTurn b) where
  abbrev h : Holds is_of running picks_of all_sound b
  h = q.holds

  abbrev g : Setting
  g = setting_of b

  abbrev x : Play
  x = h.play

  abbrev y : Play
  y = happen g x (Opens ev)

  live : x.live ≡ x.past
  live = live_of is_of running picks_of all_sound b h q.idle

  pub leaves : (a : Actor) → Spares ev a → Leaves x y a
  leaves a s = open_leaves g x ev a (is_idle is_of running picks_of all_sound b h q.idle) live s

  -- ---- the body after the event is opened, with the hands and picks of c and the states of d

  module _ (c d : Body W) (stands : Stands b.side.script d.side.states y.live) where
    abbrev e : Body W
    e = record b { side = record b.side { hands = c.side.hands; picks = c.side.picks; states = d.side.states; event = Some ev } }

    abbrev pub opened_holds : (sound : ℕ → Bool) → length c.side.hands.items ≡ length b.side.hands.items
        → HandsAre is_of running picks_of sound g b.shared.opening y c.side.hands.items → PutBy g b.shared.opening y c.side.picks
        → Holds is_of running picks_of sound e
    opened_holds sound places hands picks =
        search (
          happens x (Opens ev) h.happened (may_open is_of running picks_of all_sound b h ev None q.idle next fine),
          turn,
          places ∙
              h.places,
          hands,
          picks,
          q.none,
          stands,
        )

    pub opened_hands : (sound : ℕ → Bool) → ((p : ℕ) → sound p ≡ true → slice_get c.side.hands.items p ≡ slice_get b.side.hands.items p)
        → ((p : ℕ) (a : Actor) → sound p ≡ true → slice_get (actors b.side.script) p ≡ Some a → Spares ev a)
        → HandsAre is_of running picks_of sound g b.shared.opening y c.side.hands.items
    opened_hands sound same spare p a k s at hand = hand_kept g b.shared.opening x y is_of running picks_of a (leaves a (spare p a s at)) k
        (h.hands p a k refl at (sym (same p s) ∙ hand))

    -- Each actor that is busy then was busy before, unless it begins an operation.
    pub busy_before : (p : ℕ) → ((a : Actor) → slice_get (actors b.side.script) p ≡ Some a → Spares ev a)
        → is_busy_at d.side.states.actors p ≡ true → is_busy_at b.side.states.actors p ≡ true
    busy_before p spare busy =
        let r = busy_actor b.side.script d.side.states y.live stands p busy in
        busy_of is_of running picks_of all_sound b h p r.0 r.1 ∙ elim (true_or_false (is_busy (x.live.state r.0).life)) [
          | inl t ↦ t
          | inr f ↦ absurd (false_true ((leaves r.0 (spare r.0 r.1)).idle f) r.2)
        ]

  -- ---- an event that begins no operation

  module _ (d : Body W) (o : IsOpened ev b d) (begins : BeginsNone ev) where
    stands_none : Stands b.side.script d.side.states y.live
    stands_none = o.stands x.past (subst (Stands b.side.script b.side.states) live h.stands)

    pub has_entered : HasRoom b → HasEntered wants is_of running picks_of ev b d
    has_entered room = subst (HasEntered wants is_of running picks_of ev b) (sym o.is) (record {
      going = record {
        holds =
            opened_holds b d stands_none all_sound refl (opened_hands b d stands_none all_sound (λ p s. refl)
            (λ p a s at. spares_all ev begins a))
            (put_by_kept g b.shared.opening x y (leaves Driver (spares_all ev begins Driver)) b.side.picks h.picks);
        none_over = λ p k busy hand. q.none_over p k (busy_before b d stands_none p (λ a at. spares_all ev begins a) busy) hand;
        during = refl;
      };
      entered = let fresh = no_entries is_of running picks_of all_sound b h q.idle in assumption (fresh);
      fine = fine;
      stands = subst (λ p. Stands b.side.script d.side.states (open_event b.side.script p ev))
          (past_of is_of running picks_of all_sound b h) stands_none;
      none = q.none;
      room = record { ends = room.ends; finished = room.finished };
    })
