-- What a body that holds says of its run: which event may begin, that its numbers are small, and which actors are at its places.
use Rattle.text_and_lists.proofs.Members.{false_true}
use Rattle.job_model.specs.Known.{Known}
use Rattle.job_model.specs.Legal.{IsEvent}
use Rattle.job_model.specs.declared.ends.EventFault.{EventFault}
use Rattle.job_model.specs.declared.ends.Pick.{Pick}
use Rattle.job_model.specs.declared.events.Event.{Event}
use Rattle.job_protocol.specs.Knowledge.{knows}
use Rattle.job_protocol.specs.Operations.{Running, Setting, who}
use Rattle.job_run.proofs.Lives.{Lives, lives}
use Rattle.job_run.proofs.Places.{there}
use Rattle.job_run.proofs.Standings.{busy_at}
use Rattle.job_run.specs.Events.{Next, knows_of}
use Rattle.job_run.specs.inner.Events.{event_entries}
use Rattle.job_run.specs.Holds.{Holds, is_busy_at, seen_by, setting_of}
use Rattle.job_run.specs.declared.body.Body.{Body}
use Rattle.job_run.specs.declared.hands.Hand.{Hand}
use Rattle.job_spec.specs.States.{Past, actors, past, refusal}
use Rattle.job_spec.specs.Turns.{by_actor, is_busy, of_event}
use Rattle.job_states.specs.Stands.{Stands}
use Rattle.script_steps.proofs.Parts.{event_none}
use Rattle.script_steps.proofs.PastMore.{event_at}
use Rattle.script_steps.proofs.Told.{Told, told_all}
use Rattle.script_steps.specs.Transitions.{MayOpen, Play, knows_now}
use Rattle.s3_types.specs.declared.request.Actor.{Actor}
use Rattle.std.proofs.Common.{Bool, List, None, Option, Some, ap, arith, length, slice_get, subst, sym, ℕ, [], ◌+◌, ◌-◌, ◌<◌, ◌^◌, ◌∙◌, ◌≡◌}
use Rattle.std.proofs.lemmas.Option.{slice_get_within}
use Rattle.std.specs.Prelude.{IsSome, is_some}

-- None is not some value.
pub never : {A : Type 0} (X : Type 0) (o : Option A) → o ≡ None → IsSome o → X
never X o none some = absurd (false_true (ap is_some none) some)

module _ {W : Type 0} (is_of : Setting → Actor → W → Type 0) (running : Known → W → Running) (picks_of : W → Option (List Pick))
    (sound : ℕ → Bool) (b : Body W) (h : Holds is_of running picks_of sound b) where
  abbrev play : Play
  play = h.play

  pub told_of : Told (setting_of b) b.shared.opening h.play
  told_of = told_all (setting_of b) b.shared.opening h.play h.happened

  pub lives_of : Lives (setting_of b) h.play
  lives_of = lives (setting_of b) b.shared.opening h.play h.legal h.happened

  pub past_of : h.play.past ≡ past b.side.script b.side.ends.items
  past_of = told_of.past_is ∙ ap (past b.side.script) (sym h.ends)

  pub knows_as : (a : Actor) → knows_of b a ≡ knows_now (setting_of b) h.play a
  knows_as a = ap (λ es. knows b.side.script (who a) (by_actor a es)) h.journal

  pub is_idle : b.side.event ≡ None → h.play.now ≡ None
  is_idle idle = sym h.now ∙ idle

  pub live_of : b.side.event ≡ None → h.play.live ≡ h.play.past
  live_of idle = (told_of.closed (is_idle idle)).0

  pub stands_of : b.side.event ≡ None → Stands b.side.script b.side.states (past b.side.script b.side.ends.items)
  stands_of idle = subst (Stands b.side.script b.side.states) (live_of idle ∙ past_of) h.stands

  -- ---- the event that is next

  pub next_of : (ev : Event) → Next b ev → slice_get b.side.script.events (length h.play.ends) ≡ Some ev
  next_of ev next = ap (λ xs. slice_get b.side.script.events (length xs)) (sym h.ends) ∙ next

  pub may_open : (ev : Event) (f : Option EventFault) → b.side.event ≡ None → Next b ev
      → refusal (past b.side.script b.side.ends.items).state ev ≡ f → MayOpen (setting_of b) h.play ev f
  may_open ev f idle next is = record {
    idle = is_idle idle;
    next = next_of ev next;
    refusal_is = ap (λ (p : Past). refusal p.state ev) past_of ∙ is;
  }

  pub event_of : (ev : Event) → Next b ev → IsEvent b.side.script.attempts ev
  event_of ev next = event_at b.side.script.attempts b.side.script.events (length b.side.ends.items) ev h.legal.events next

  pub no_entries : b.side.event ≡ None → event_entries b ≡ []
  no_entries idle =
      ap (λ xs. of_event (length xs + 1) (seen_by b)) h.ends ∙ ap (of_event (length h.play.ends + 1)) h.journal
      ∙ event_none (length h.play.ends) h.play.journal (told_of.closed (is_idle idle)).1

  -- ---- numbers

  few_ends : (ev : Event) → slice_get b.side.script.events (length h.play.ends) ≡ Some ev → length h.play.ends < 100000
  few_ends ev next = omega (arith, slice_get_within b.side.script.events (length h.play.ends) ev next, h.legal.few_events)

  few_events : (ev : Event) → slice_get b.side.script.events (length h.play.ends) ≡ Some ev → b.side.states.events < 2 ^ 32 - 1
  few_events ev next = omega (arith, few_ends ev next, told_of.live_counts, h.stands.events)

  pub few_events_next : (ev : Event) → Next b ev → b.side.states.events < 2 ^ 32 - 1
  few_events_next ev next = few_events ev (next_of ev next)

  pub few_events_now : (ev : Event) → b.side.event ≡ Some ev → b.side.states.events < 2 ^ 32 - 1
  few_events_now ev now = few_events ev (told_of.opened ev (sym h.now ∙ now)).next

  pub few_attempts : (ev : Event) → Next b ev → b.side.states.attempt < 2 ^ 32 - 1
  few_attempts ev next = omega (arith, few_ends ev (next_of ev next), lives_of.live_few, h.stands.attempt)

  -- ---- places

  pub hand_at : (q : ℕ) (a : Actor) → slice_get (actors b.side.script) q ≡ Some a → (k : Hand W) × (slice_get b.side.hands.items q ≡ Some k)
  hand_at q a at =
      let within = slice_get_within (actors b.side.script) q a at in
      let same = h.places in
      there b.side.hands.items q (omega arith)

  pub busy_of : (q : ℕ) (a : Actor) → slice_get (actors b.side.script) q ≡ Some a
      → is_busy_at b.side.states.actors q ≡ is_busy (h.play.live.state a).life
  busy_of q a at = busy_at b.side.script b.side.states h.play.live h.stands q a at
