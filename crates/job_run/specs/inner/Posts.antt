-- What one send of a busy actor leaves.
use Rattle.job_actor.specs.declared.posting.Posted.{Posted}
use Rattle.job_actor.specs.declared.posting.Posted.TheVariants.{Broken, Heard, Unsent}
use Rattle.job_model.specs.JobScript.{Script}
use Rattle.job_model.specs.Known.{Known}
use Rattle.job_model.specs.declared.ends.Pick.{Pick}
use Rattle.job_protocol.specs.Operations.{Running, Setting}
use Rattle.job_run.specs.Holds.{Holds, Stays, all_but, all_sound, hand_left, is_busy_at, seen_by}
use Rattle.job_run.specs.declared.body.Body.{Body}
use Rattle.job_run.specs.declared.hands.Hand.{Hand}
use Rattle.job_run.specs.declared.hands.Hand.TheVariants.{At}
use Rattle.s3_types.specs.Store.{Scene}
use Rattle.s3_types.specs.declared.journal.Entry.{Entry}
use Rattle.s3_types.specs.declared.request.Actor.{Actor}
use Rattle.std.specs.Prelude.{List, Option, Some, length, slice_get, suc, true, zero, ℕ, [], ◌++◌, ◌+◌, ◌<◌, ◌∷◌, ◌≡◌, ◌≤◌}

-- Nothing has changed but the store, the journal and the hand at this place.
pub record Around {W : Type 0} (place : ℕ) (b c : Body W) : Type 0 where
  pub stays : Stays b c
  pub ends : c.side.ends ≡ b.side.ends
  pub event : c.side.event ≡ b.side.event
  pub events : c.shared.events ≡ b.shared.events
  pub finished : c.side.finished ≡ b.side.finished
  pub states : c.side.states ≡ b.side.states
  pub places : length c.side.hands.items ≡ length b.side.hands.items
  pub hands : (q : ℕ) → (q ≡ place → ⊥) → slice_get c.side.hands.items q ≡ slice_get b.side.hands.items q

-- The actor sent a request in the event in progress, and its entry is the last of the journal.
pub record Wrote {W : Type 0} (actor : Actor) (b c : Body W) : Type 0 where
  pub entry : Entry
  pub by : entry.actor ≡ actor
  pub number : entry.event ≡ b.shared.events + 1
  pub appended : c.shared.journal.entries ≡ b.shared.journal.entries ++ entry ∷ []
  pub seen : seen_by c ≡ seen_by b ++ record {
    event = length b.side.ends.items + 1;
    actor = actor;
    request = entry.request;
    outcome =
        entry.outcome;
  } ∷ []

-- By how much another actor's request may raise what the actor at a place has left to send: by `rise` for the driver, else by 0.
abbrev pub raised : ℕ → ℕ → ℕ
raised rise zero = rise
raised rise (suc place) = 0

-- In this scene each other busy actor has at most so much more left to send than before.
abbrev pub RaisedBy : {W : Type 0} → (W → Scene → ℕ) → (Script → ℕ) → ℕ → Body W → Scene → Type 0
RaisedBy left rise place b s = (q : ℕ) (h : Hand _) → (q ≡ place → ⊥) → is_busy_at b.side.states.actors q ≡ true
    → slice_get b.side.hands.items q ≡ Some h → hand_left left s h ≤ hand_left left b.shared.store.scene h + raised (rise b.side.script) q

-- The actor at this place has less left to send than before.
abbrev pub FellAt : {W : Type 0} → (W → Scene → ℕ) → ℕ → Body W → Body W → Type 0
FellAt left place b c = (h k : Hand _) → slice_get b.side.hands.items place ≡ Some h → slice_get c.side.hands.items place ≡ Some k
    → hand_left left c.shared.store.scene k < hand_left left b.shared.store.scene h

-- The hand at this place has an operation.
abbrev pub IsWorking : {W : Type 0} → ℕ → Body W → Type 0
IsWorking place b = (m : _) × (slice_get b.side.hands.items place ≡ Some (At m))

-- What one turn of the actor at this place leaves, by how the turn went.
abbrev pub PostedAt : {W : Type 0} → (W → Scene → ℕ) → (Setting → Actor → W → Type 0) → (Known → W → Running) → (Script → ℕ)
    → (W → Option (List Pick)) → ℕ → Actor → Body W → Body W → Posted → Type 0
PostedAt left is_of running rise picks_of place actor b c Unsent = Holds is_of running picks_of (all_but place) c
    × (c.shared.journal.entries ≡ b.shared.journal.entries) × (c.shared.store.scene ≡ b.shared.store.scene)
PostedAt left is_of running rise picks_of place actor b c Broken = Holds is_of running picks_of (all_but place) c × Wrote actor b c
    × RaisedBy left rise place b c.shared.store.scene
PostedAt left is_of running rise picks_of place actor b c Heard = Holds is_of running picks_of all_sound c × Wrote actor b c
    × RaisedBy left rise place b c.shared.store.scene × FellAt left place b c × IsWorking place c
