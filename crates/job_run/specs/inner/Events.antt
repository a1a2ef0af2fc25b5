-- Definitions beside those of `Events` that no public contract cites.
use Rattle.job_actor.specs.Acts.{ends_with_path}
use Rattle.job_actor.specs.Plans.{IsPlanOf}
use Rattle.job_model.specs.Known.{Known}
use Rattle.job_model.specs.declared.ends.ActorEnd.{ActorEnd}
use Rattle.job_model.specs.declared.ends.EventEnd.{EventEnd}
use Rattle.job_model.specs.declared.ends.EventEnd.TheVariants.{Done, Ended, Mixed}
use Rattle.job_model.specs.declared.ends.EventFault.{EventFault}
use Rattle.job_model.specs.declared.ends.OpEnd.{OpEnd}
use Rattle.job_model.specs.declared.ends.OpEnd.TheVariants.{NoMemory}
use Rattle.job_model.specs.declared.ends.Pick.{Pick}
use Rattle.job_model.specs.declared.events.Event.{Event}
use Rattle.job_model.specs.declared.events.Event.TheVariants.{Do, Kill, Mix, Recover, Restart, Start}
use Rattle.job_model.specs.declared.events.Op.{Op}
use Rattle.job_protocol.specs.Operations.{Reports, Running, Setting, start_of}
use Rattle.job_run.specs.Events.{Grown, Next, knows_of}
use Rattle.job_run.specs.Holds.{Going, HandIs, Holds, IsTurn, Quiet, Stays, all_but, all_sound, is_busy_at, seen_by, setting_of}
use Rattle.job_run.specs.Sending.{Asks}
use Rattle.job_run.specs.declared.body.Body.{Body}
use Rattle.job_run.specs.declared.hands.Hand.{Hand}
use Rattle.job_run.specs.declared.hands.Hand.TheVariants.{At, Plan}
use Rattle.job_spec.specs.States.{Past, actors, open_event, past, refusal, reports, told}
use Rattle.job_spec.specs.Turns.{AllBy, Turns, busy_actors, of_event}
use Rattle.job_states.specs.Stands.{IsPlace, Stands}
use Rattle.s3_types.specs.declared.journal.Entry.{Entry}
use Rattle.s3_types.specs.declared.request.Actor.{Actor}
use Rattle.s3_types.specs.declared.request.Request.{Request}
use Rattle.script_steps.specs.Transitions.{begun}
use Rattle.std.specs.Prelude.{Bool, IfOk, IsSome, List, None, Option, Result, Some, false, length, map, slice_get, true, vec_capacity}
use Rattle.std.specs.Prelude.{vec_len, ℕ, [], ◌+◌, ◌-◌, ◌<◌, ◌∷◌, ◌≡◌, ◌≤◌, ◌⊎◌}

-- The script's next event is refused with this fault.
abbrev pub Refuses : {W : Type 0} → Body W → Event → EventFault → Type 0
Refuses b event fault = refusal (past b.side.script b.side.ends.items).state event ≡ Some fault

-- The event is not refused.
abbrev pub IsFine : {W : Type 0} → Body W → Event → Type 0
IsFine b event = refusal (past b.side.script b.side.ends.items).state event ≡ None

-- There is room for the event's end, and for the ends of all actors' operations.
pub record HasRoom {W : Type 0} (b : Body W) : Type 0 where
  pub ends : vec_len b.side.ends < vec_capacity b.side.ends
  pub finished : length b.side.hands.items ≤ vec_capacity b.side.finished - vec_len b.side.finished

-- The end of an event that is no mix: the end of the first operation that ended in it, or Done if none did.
abbrev pub one_end : List ActorEnd → EventEnd
one_end [] = Done
one_end (x ∷ xs) = Ended x.end

-- The end of an event, by its kind and the operations that ended in it.
abbrev pub end_of : Event → List ActorEnd → EventEnd
end_of (Mix seed) xs = Mixed xs
end_of _ xs = one_end xs

-- The entries of the event in progress.
abbrev pub event_entries : {W : Type 0} → Body W → List Entry
event_entries b = of_event (length b.side.ends.items + 1) (seen_by b)

-- The event's entries follow the turns that its kind gives, and its end names exactly the operations that ended in it.
pub record ByTurns {W : Type 0} (b : Body W) (event : Event) : Type 0 where
  pub turns : Turns b.side.script (past b.side.script b.side.ends.items).state event (end_of event b.side.finished.items) (event_entries b)
  pub told : told event (end_of event b.side.finished.items) ≡ b.side.finished.items

-- An event may be played: it is the script's next one, it is not refused, and there is room for its end.
pub record MayPlay {W : Type 0} (wants : W → Option Request) (is_of : Setting → Actor → W → Type 0) (running : Known → W → Running)
    (picks_of : W → Option (List Pick)) (event : Event) (b : Body W) : Type 0 where
  pub next : Next b event
  pub fine : IsFine b event
  pub turn : IsTurn b
  pub room : HasRoom b
  pub quiet : Quiet wants is_of running picks_of b

-- The event is over and has its end.
pub record IsPast {W : Type 0} (wants : W → Option Request) (is_of : Setting → Actor → W → Type 0) (running : Known → W → Running)
    (picks_of : W → Option (List Pick)) (b c : Body W) : Type 0 where
  pub quiet : Quiet wants is_of running picks_of c
  pub grown : Grown b c

-- The event begins this operation of this actor.
abbrev pub BeginsBy : Event → Actor → Op → Type 0
BeginsBy (Do b o) a op = (b ≡ a) × (o ≡ op)
BeginsBy (Start b o) a op = (b ≡ a) × (o ≡ op)
BeginsBy _ a op = ⊥

-- The event begins no operation.
abbrev pub BeginsNone : Event → Type 0
BeginsNone (Do a op) = ⊥
BeginsNone (Start a op) = ⊥
BeginsNone _ = Unit {0}

-- Nobody sends in the event: it is a kill, a restart or a recovery.
abbrev pub IsStill : Event → Type 0
IsStill (Kill a) = Unit {0}
IsStill Restart = Unit {0}
IsStill (Recover a) = Unit {0}
IsStill _ = ⊥

-- The event is in progress, and the states are as it leaves them before its first request.
pub record IsOpened {W : Type 0} (event : Event) (b c : Body W) : Type 0 where
  pub is : c ≡ record b { side = record b.side { states = c.side.states; event = Some event } }
  pub stands : (p : Past) → Stands b.side.script b.side.states p → Stands b.side.script c.side.states (open_event b.side.script p event)

-- Only the hands and the picks may have changed, and no hand but the one at this place.
pub record Emptied {W : Type 0} (place : ℕ) (b c : Body W) : Type 0 where
  pub is : c ≡ record b { side = record b.side { hands = c.side.hands; picks = c.side.picks } }
  pub places : length c.side.hands.items ≡ length b.side.hands.items
  pub others : (q : ℕ) → (q ≡ place → ⊥) → slice_get c.side.hands.items q ≡ slice_get b.side.hands.items q

-- The hand gives the plan of an attempt that knows k: the attempt is idle, or its operation has nothing more to send.
abbrev pub GivesPlan : {W : Type 0} → (W → Option Request) → (Setting → Actor → W → Type 0) → (Known → W → Running) → Setting → Actor
    → Known → Option (Hand W) → Type 0
GivesPlan wants is_of running g a k (Some (Plan p)) = IsPlanOf g a k p
GivesPlan wants is_of running g a k (Some (At m)) = is_of g a m × (wants m ≡ None) × ((running k m).known ≡ k)
GivesPlan wants is_of running g a k _ = ⊥

-- Reports that name only the lowest task that is missing.
abbrev pub of_tasks : Option ℕ → Reports
of_tasks missing = record { missing = missing; attempts = [] }

-- The operation is the one that the script's actor begins, by the events before it, and it has no picks yet.
pub record IsWork {W : Type 0} (is_of : Setting → Actor → W → Type 0) (running : Known → W → Running) (picks_of : W → Option (List Pick))
    (b : Body W) (a : Actor) (op : Op) (work : W) : Type 0 where
  pub goes_by : is_of (setting_of b) a work
  pub starts : (p : Past) → Stands b.side.script b.side.states p
      → begun (start_of (setting_of b) a op (reports b.side.script p.reported) (knows_of b a)) (knows_of b a) ≡ Some
      (running (knows_of b a) work)
  pub picks : (ps : List Pick) → picks_of work ≡ Some ps → ps ≡ []

-- An actor began an operation in the event in progress. All holds except for the hand at its place, and the new operation, if there was
-- memory for it, fits into that hand.
pub record Begun {W E : Type 0} (wants : W → Option Request) (is_of : Setting → Actor → W → Type 0) (running : Known → W → Running)
    (picks_of : W → Option (List Pick)) (place : ℕ) (a : Actor) (b : Body W) (work : Result W E) : Type 0 where
  pub holds : Holds is_of running picks_of (all_but place) b
  pub actor : IsPlace b.side.script a (Some place)
  pub fits : IfOk work (λ m. HandIs is_of running picks_of (setting_of b) b.shared.opening holds.play a (At m))
  pub busy : is_busy_at b.side.states.actors place ≡ true
  pub others : (q : ℕ) (h : Hand W) → (q ≡ place → ⊥) → is_busy_at b.side.states.actors q ≡ true → slice_get b.side.hands.items q ≡ Some h
      → Asks wants h
  pub during : IsSome b.side.event
  pub none : b.side.finished.items ≡ []
  pub room : vec_len b.side.finished < vec_capacity b.side.finished

-- Only the hand at this place has changed, and it is now this one.
pub record Handed {W : Type 0} (place : ℕ) (hand : Hand W) (b c : Body W) : Type 0 where
  pub is : c ≡ record b { side = record b.side { hands = c.side.hands } }
  pub places : length c.side.hands.items ≡ length b.side.hands.items
  pub here : slice_get c.side.hands.items place ≡ Some hand
  pub others : (q : ℕ) → (q ≡ place → ⊥) → slice_get c.side.hands.items q ≡ slice_get b.side.hands.items q

-- All holds, and the actor at this place has an operation in hand.
pub record InHand {W : Type 0} (wants : W → Option Request) (is_of : Setting → Actor → W → Type 0) (running : Known → W → Running)
    (picks_of : W → Option (List Pick)) (place : ℕ) (a : Actor) (b : Body W) : Type 0 where
  pub holds : Holds is_of running picks_of all_sound b
  pub actor : IsPlace b.side.script a (Some place)
  pub work : W
  pub hand : slice_get b.side.hands.items place ≡ Some (At work)
  pub busy : is_busy_at b.side.states.actors place ≡ true
  pub others : (q : ℕ) (h : Hand W) → (q ≡ place → ⊥) → is_busy_at b.side.states.actors q ≡ true → slice_get b.side.hands.items q ≡ Some h
      → Asks wants h
  pub during : IsSome b.side.event
  pub none : b.side.finished.items ≡ []
  pub room : vec_len b.side.finished < vec_capacity b.side.finished

-- The actor at this place has more to send, or its operation ended at once and is the only one that ended in the event.
abbrev pub TakenUp : {W : Type 0} → ℕ → Actor → Body W → Bool → Type 0
TakenUp place a b true = (is_busy_at b.side.states.actors place ≡ true) × (b.side.finished.items ≡ [])
    × (vec_len b.side.finished < vec_capacity b.side.finished)
TakenUp place a b false = (end : OpEnd) × (b.side.finished.items ≡ record { actor = a; end = end } ∷ [])

-- The end that an operation reports: its own one, or NoMemory if its own one names a path.
abbrev pub IsToldOf : Option OpEnd → OpEnd → Type 0
IsToldOf due end = (due ≡ Some end) ⊎ ((ends_with_path due ≡ true) × (end ≡ NoMemory))

-- If the actor has more to send, its operation has no end yet; else its reported end is the only one of the event.
abbrev pub EndsAtOnce : {W : Type 0} → Option OpEnd → Actor → Body W → Bool → Type 0
EndsAtOnce due a b true = due ≡ None
EndsAtOnce due a b false = (end : OpEnd) × (b.side.finished.items ≡ record { actor = a; end = end } ∷ []) × IsToldOf due end

-- The event is opened and has no entry yet.
pub record Entered {W : Type 0} (event : Event) (b c : Body W) : Type 0 where
  pub stays : Stays b c
  pub ends : c.side.ends ≡ b.side.ends
  pub now : c.side.event ≡ Some event
  pub events : c.shared.events ≡ b.shared.events
  pub journal : c.shared.journal ≡ b.shared.journal
  pub fresh : event_entries c ≡ []

-- The actor at this place began an operation in the event, and has more to send or not.
pub record HasBegun {W : Type 0} (wants : W → Option Request) (is_of : Setting → Actor → W → Type 0) (running : Known → W → Running)
    (picks_of : W → Option (List Pick)) (event : Event) (place : ℕ) (a : Actor) (b c : Body W) (goes_on : Bool) : Type 0 where
  pub going : Going wants is_of running picks_of c
  pub entered : Entered event b c
  pub taken : TakenUp place a c goes_on

-- These are the places of the busy actors.
abbrev pub AreBusy : {W : Type 0} → Body W → List ℕ → Type 0
AreBusy b places = map (slice_get (actors b.side.script)) places ≡ map (λ x. Some x)
    (busy_actors b.side.script (past b.side.script b.side.ends.items).state)

-- The event is opened and begins no operation. Nothing was sent in it, no operation ended in it, and there is room for all ends.
pub record HasEntered {W : Type 0} (wants : W → Option Request) (is_of : Setting → Actor → W → Type 0) (running : Known → W → Running)
    (picks_of : W → Option (List Pick)) (event : Event) (b c : Body W) : Type 0 where
  pub going : Going wants is_of running picks_of c
  pub entered : Entered event b c
  pub fine : IsFine c event
  pub stands : Stands c.side.script c.side.states (open_event c.side.script (past c.side.script c.side.ends.items) event)
  pub none : c.side.finished.items ≡ []
  pub room : HasRoom c

-- Only this actor sent in the event, and only its operation ended in it.
pub record AllOf {W : Type 0} (a : Actor) (b : Body W) : Type 0 where
  pub by : AllBy a (event_entries b)
  pub end : OpEnd
  pub finished : b.side.finished.items ≡ record { actor = a; end = end } ∷ []
