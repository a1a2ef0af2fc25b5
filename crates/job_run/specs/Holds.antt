-- What holds of a job during and between its events.
use Rattle.job_actor.specs.Picks.{ArePicksOf, HasPicked, is_committing}
use Rattle.job_actor.specs.Plans.{IsPlanOf}
use Rattle.job_model.specs.JobScript.{Script}
use Rattle.job_model.specs.Known.{Known}
use Rattle.job_model.specs.Legal.{IsLegal}
use Rattle.job_model.specs.declared.ends.EventEnd.{EventEnd}
use Rattle.job_model.specs.declared.ends.OpEnd.{OpEnd}
use Rattle.job_model.specs.declared.ends.Pick.{Pick}
use Rattle.job_model.specs.declared.states.Life.TheVariants.{Dead}
use Rattle.job_protocol.specs.Operations.{Running, Setting}
use Rattle.job_run.specs.Sending.{Asks}
use Rattle.job_run.specs.declared.body.Body.{Body}
use Rattle.job_run.specs.declared.hands.Hand.{Hand}
use Rattle.job_run.specs.declared.hands.Hand.TheVariants.{At, Empty, Plan}
use Rattle.job_spec.specs.Eyes.{in_eyes, number_in}
use Rattle.job_spec.specs.Promise.{ArePicked, all_picks, lacked_memory}
use Rattle.job_spec.specs.States.{actors}
use Rattle.job_spec.specs.Turns.{is_busy, is_own, of_event}
use Rattle.job_states.specs.Stands.{Stands}
use Rattle.job_states.specs.Turning.{KeepsLaws, Table}
use Rattle.job_states.specs.declared.standing.Standing.{Standing}
use Rattle.script_steps.specs.Running.{Ahead}
use Rattle.script_steps.specs.Transitions.{Play, Reachable, knows_now, scene_of}
use Rattle.protocol_runs.specs.Runs.{IsOpening}
use Rattle.s3_types.specs.Fates.{fate_at}
use Rattle.s3_types.specs.Foretold.{AreForetold}
use Rattle.s3_types.specs.Store.{Content, Scene}
use Rattle.s3_types.specs.declared.journal.Entry.{Entry}
use Rattle.s3_types.specs.declared.request.Actor.{Actor}
use Rattle.s3_types.specs.declared.request.Actor.TheVariants.{Driver, Shell}
use Rattle.s3_types.specs.declared.request.Request.{Request}
use Rattle.std.proofs.Common.{ap, append-nil, append_assoc, subst, sym, ◌∙◌}
use Rattle.std.specs.List.{AllByRecursion, list_any}
use Rattle.std.specs.Prelude.{Bool, IsSome, List, None, Option, Some, cond, false, length, nat_eq, not, refl, slice_get, suc, true}
use Rattle.std.specs.Prelude.{vec_capacity, vec_len, zero, ℕ, [], ◌*◌, ◌++◌, ◌+◌, ◌-◌, ◌<◌, ◌^◌, ◌∷◌, ◌≡◌, ◌≤◌, ◌⊎◌}

-- The event with this number is the job's own: it is not among the numbers of the other job's events.
abbrev pub is_mine : List ℕ → ℕ → Bool
is_mine others n = not (list_any (λ k. nat_eq k n) others)

-- The journal as the job reads it.
abbrev pub seen_by : {W : Type 0} → Body W → List Entry
seen_by b = in_eyes (is_mine b.side.others.items) b.shared.journal.entries

-- The run's next event is the job's own, and its number fits into 32 bits.
pub record IsTurn {W : Type 0} (b : Body W) : Type 0 where
  pub mine : is_mine b.side.others.items (b.shared.events + 1) ≡ true
  pub few : b.shared.events + 1 < 2 ^ 32

-- The setting of a job: its script, the store's least size of a part, and whether another job shares the destination.
abbrev pub setting_of : {W : Type 0} → Body W → Setting
setting_of b = record { script = b.side.script; minimum = b.shared.opening.minimum; shared = b.side.shares }

-- The actor's operation ended because memory ran out. If it was the job's commit, the states say so.
pub record IsLost (x : Play) (a : Actor) : Type 0 where
  pub idle : is_busy (x.live.state a).life ≡ false
  pub wanting : a ≡ Driver → is_committing (x.running Driver) ≡ true → lacked_memory x.live.commit ≡ true
  -- An attempt stays dead after that.
  pub dead : (a ≡ Driver → ⊥) → (x.live.state a).life ≡ Dead

-- The hand fits the state of the actor. A plan: of an idle attempt, with what it knows. An operation: the one that the actor began last,
-- with its picks. Empty: the operation ended because memory ran out, or it is the driver and it has begun no operation.
abbrev pub HandIs : {W : Type 0} → (Setting → Actor → W → Type 0) → (Known → W → Running) → (W → Option (List Pick)) → Setting → Content
    → Play → Actor → Hand W → Type 0
HandIs is_of running picks_of g opening x a (Plan p) = (is_busy (x.live.state a).life ≡ false) × IsPlanOf g a (knows_now g x a) p
    × (a ≡ Driver → ⊥)
HandIs is_of running picks_of g opening x a (At m) = is_of g a m
    × ((x.running a ≡ Some (running (knows_now g x a) m)) × HasPicked g opening x (picks_of m))
HandIs is_of running picks_of g opening x a Empty = IsLost x a ⊎ ((a ≡ Driver) × ((x.running Driver) ≡ None))

-- Each hand fits its actor, except at the places that are left out.
abbrev pub HandsAre : {W : Type 0} → (Setting → Actor → W → Type 0) → (Known → W → Running) → (W → Option (List Pick)) → (ℕ → Bool)
    → Setting → Content → Play → List (Hand W) → Type 0
HandsAre is_of running picks_of sound g opening x hands = (place : ℕ) (a : Actor) (h : Hand _) → sound place ≡ true
    → slice_get (actors g.script) place ≡ Some a → slice_get hands place ≡ Some h → HandIs is_of running picks_of g opening x a h

-- No place is left out.
abbrev pub all_sound : ℕ → Bool
all_sound place = true

-- Only this place is left out.
abbrev pub all_but : ℕ → ℕ → Bool
all_but p place = not (nat_eq place p)

-- The picks put by earlier. There are none if the job's commit is what the driver began last. Else they are the first ones of those that
-- the journal shows, and all of them unless the commit ran out of memory.
pub record PutBy (g : Setting) (opening : Content) (x : Play) (ps : List Pick) : Type 0 where
  pub none : is_committing (x.running Driver) ≡ true → ps ≡ []
  pub first : is_committing (x.running Driver) ≡ false → (xs : List EventEnd) → Ahead x xs
      → ArePicked ps (all_picks g.script opening x.journal xs)
  pub all : is_committing (x.running Driver) ≡ false → lacked_memory x.live.commit ≡ false → ArePicksOf g opening x ps

-- What holds of a job, during and between events: all that happened was allowed, and the body agrees with it. The hands at the places that
-- are left out may be anything.
pub record Holds {W : Type 0} (is_of : Setting → Actor → W → Type 0) (running : Known → W → Running) (picks_of : W → Option (List Pick))
    (sound : ℕ → Bool) (b : Body W) : Type 0 where
  pub legal : IsLegal b.side.script
  pub opens : IsOpening (setting_of b) b.shared.opening
  pub play : Play
  pub happened : Reachable (setting_of b) b.shared.opening play
  pub journal : seen_by b ≡ play.journal
  pub ends : b.side.ends.items ≡ play.ends
  pub counts : number_in (is_mine b.side.others.items) b.shared.events ≡ length b.side.ends.items
  pub turn : IsSome b.side.event → IsTurn b
  pub now : b.side.event ≡ play.now
  pub finished : b.side.finished.items ≡ play.finished
  pub scene : b.shared.store.scene ≡ scene_of b.shared.opening play
  pub requests : b.shared.store.requests ≡ length b.shared.journal.entries
  -- Each send had the outcome that the store's fates name for its number.
  pub fated : AreForetold (λ n. Some (fate_at b.shared.store.fates n)) 1 b.shared.journal.entries
  pub few : b.shared.store.scene.content.next ≤ 2 ^ 62 + b.shared.store.requests
  pub stands : Stands b.side.script b.side.states play.live
  pub places : length b.side.hands.items ≡ length (actors b.side.script)
  pub hands : HandsAre is_of running picks_of sound (setting_of b) b.shared.opening play b.side.hands.items
  pub picks : PutBy (setting_of b) b.shared.opening play b.side.picks

-- An actor with this standing is busy.
abbrev pub busy_in : Option Standing → Bool
busy_in None = false
busy_in (Some s) = is_busy s.state.life

-- The actor at this place is busy.
abbrev pub is_busy_at : List Standing → ℕ → Bool
is_busy_at standings place = busy_in (slice_get standings place)

-- Each busy actor has more to send.
abbrev pub NoneOver : {W : Type 0} → (W → Option Request) → Body W → Type 0
NoneOver wants b = (place : ℕ) (h : Hand _) → is_busy_at b.side.states.actors place ≡ true → slice_get b.side.hands.items place ≡ Some h
    → Asks wants h

-- What holds while an event is in progress.
pub record Going {W : Type 0} (wants : W → Option Request) (is_of : Setting → Actor → W → Type 0) (running : Known → W → Running)
    (picks_of : W → Option (List Pick)) (b : Body W) : Type 0 where
  pub holds : Holds is_of running picks_of all_sound b
  pub none_over : NoneOver wants b
  pub during : IsSome b.side.event

-- What holds between events.
pub record Quiet {W : Type 0} (wants : W → Option Request) (is_of : Setting → Actor → W → Type 0) (running : Known → W → Running)
    (picks_of : W → Option (List Pick)) (b : Body W) : Type 0 where
  pub holds : Holds is_of running picks_of all_sound b
  pub none_over : NoneOver wants b
  pub idle : b.side.event ≡ None
  pub none : b.side.finished.items ≡ []

-- The entries are all of event n, by the job's own actors.
abbrev pub AreOf : ℕ → List Entry → Type 0
AreOf n es = AllByRecursion (λ e. (e.event ≡ n) × (is_own e.actor ≡ true)) es

pub both_of : (n : ℕ) (es fs : List Entry) → AreOf n es → AreOf n fs → AreOf n (es ++ fs)
both_of n [] fs h g = g
both_of n (e ∷ es) fs h g = (h.0, both_of n es fs h.1 g)

-- No event changes any of these.
pub record Stays {W : Type 0} (b c : Body W) : Type 0 where
  pub script : c.side.script ≡ b.side.script
  pub others : c.side.others ≡ b.side.others
  pub shares : c.side.shares ≡ b.side.shares
  pub opening : c.shared.opening ≡ b.shared.opening
  pub fates : (n : ℕ) → fate_at c.shared.store.fates n ≡ fate_at b.shared.store.fates n

abbrev pub stays_on : {W : Type 0} (a b c : Body W) → Stays a b → Stays b c → Stays a c
stays_on a b c f g = record {
  script = g.script ∙ f.script;
  others = g.others ∙ f.others;
  shares = g.shares ∙ f.shares;
  opening = g.opening
      ∙ f.opening;
  fates = λ n. g.fates n ∙ f.fates n;
}

-- No turn changes any of these.
pub record Same {W : Type 0} (b c : Body W) : Type 0 where
  pub stays : Stays b c
  pub ends : c.side.ends ≡ b.side.ends
  pub event : c.side.event ≡ b.side.event
  pub events : c.shared.events ≡ b.shared.events
  pub places : length c.side.hands.items ≡ length b.side.hands.items
  -- Entries are only added, all of the event in progress.
  pub more : (part : List Entry) × (c.shared.journal.entries ≡ b.shared.journal.entries ++ part) × AreOf (b.shared.events + 1) part

-- What one turn keeps, any number of turns keeps.
abbrev pub same_laws : {W : Type 0} → KeepsLaws (Same {W = W})
same_laws = record {
  self = λ b. record {
    stays = record { script = refl; others = refl; shares = refl; opening = refl; fates = λ n. refl };
    ends = refl;
    event = refl;
    events = refl;
    places = refl;
    more = ([], sym (append-nil b.shared.journal.entries), tt);
  };
  chain = λ a b c f g. record {
    stays = stays_on a b c f.stays g.stays;
    ends = g.ends ∙ f.ends;
    event = g.event ∙ f.event;
    events = g.events ∙ f.events;
    places = g.places ∙ f.places;
    more = (
      f.more.0 ++ g.more.0,
      g.more.1 ∙ ap (λ es. es ++ g.more.0) f.more.1 ∙ append_assoc a.shared.journal.entries f.more.0 g.more.0,
      both_of (a.shared.events + 1) f.more.0 g.more.0 f.more.2 (subst (λ (n : ℕ). AreOf (n + 1) g.more.0) f.events g.more.2),
    );
  };
}

-- The operation of the actor at this place is over, and its end is added to the event's.
pub record IsOver {W : Type 0} (place : ℕ) (actor : Actor) (end : OpEnd) (b c : Body W) : Type 0 where
  pub same : Same b c
  pub journal : c.shared.journal ≡ b.shared.journal
  pub store : c.shared.store ≡ b.shared.store
  pub finished : c.side.finished.items ≡ b.side.finished.items ++ record { actor = actor; end = end } ∷ []
  pub capacity : vec_capacity b.side.finished ≤ vec_capacity c.side.finished
  pub idle : is_busy_at c.side.states.actors place ≡ false
  pub others : (q : ℕ) → (q ≡ place → ⊥) → is_busy_at c.side.states.actors q ≡ is_busy_at b.side.states.actors q
  pub hands : (q : ℕ) → (q ≡ place → ⊥) → slice_get c.side.hands.items q ≡ slice_get b.side.hands.items q

-- ---- what of a world matters to turns

-- The actor at a place, or Shell if the place has none.
abbrev pub actor_or : Option Actor → Actor
actor_or (Some a) = a
actor_or None = Shell

-- How much an operation in hand has left to send.
abbrev pub hand_left : {W : Type 0} → (W → Scene → ℕ) → Scene → Hand W → ℕ
hand_left left s (At m) = left m s
hand_left left s _ = 0

-- The weight of a busy actor. For the driver it is what it has left to send, plus 1. An attempt's counts rise + 1 times, since each of its
-- sends may give the driver `rise` more to send.
abbrev pub weight : ℕ → ℕ → ℕ → ℕ
weight rise zero left = left + 1
weight rise (suc place) left = (rise + 1) * (left + 1)

-- The sum of the weights of the busy actors from a place on.
abbrev pub weights : {W : Type 0} → (W → Scene → ℕ) → ℕ → Scene → List Standing → ℕ → List (Hand W) → ℕ
weights left rise s standings place [] = 0
weights left rise s standings place (h ∷ hs) = cond (is_busy_at standings place) (weight rise place (hand_left left s h)) 0 + weights left
    rise s standings (place + 1) hs

-- A body as turns see it.
abbrev pub table_of : {W : Type 0} → (W → Scene → ℕ) → (Script → ℕ) → Body W → Table
table_of left rise b = record {
  entries = of_event (length b.side.ends.items + 1) (seen_by b);
  ended = b.side.finished.items;
  actor = λ place. actor_or (slice_get (actors b.side.script) place);
  goes_on = is_busy_at b.side.states.actors;
  room = vec_capacity b.side.finished - vec_len b.side.finished;
  left = weights left (rise b.side.script) b.shared.store.scene b.side.states.actors 0 b.side.hands.items;
}
