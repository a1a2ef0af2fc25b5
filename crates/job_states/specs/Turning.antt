-- The results of actors' turns.
use Rattle.job_model.specs.declared.ends.ActorEnd.{ActorEnd}
use Rattle.job_model.specs.declared.ends.OpEnd.{OpEnd}
use Rattle.job_spec.specs.Turns.{AllBy, StepEnds, is_memory}
use Rattle.job_states.specs.declared.actors.Turn.{Turn}
use Rattle.job_states.specs.declared.actors.Turn.TheVariants.{Died, Ended, GoesOn}
use Rattle.s3_types.specs.declared.journal.Entry.{Entry}
use Rattle.s3_types.specs.declared.request.Actor.{Actor}
use Rattle.std.specs.Prelude.{Bool, List, false, length, true, ℕ, [], ◌++◌, ◌+◌, ◌<◌, ◌∷◌, ◌≡◌, ◌≤◌}

-- The part of the actors' state that turns depend on.
pub record Table : Type 0 where
  -- The entries of the event so far, and the operations that ended in it.
  pub entries : List Entry
  pub ended : List ActorEnd
  -- The actor at a place, and whether it has more to send.
  pub actor : ℕ → Actor
  pub goes_on : ℕ → Bool
  -- How many more ends there is memory for, and a bound on the number of turns to come.
  pub room : ℕ
  pub left : ℕ

-- What a turn of the actor at a place leaves unchanged. The bound on turns falls.
pub record Beside (place : ℕ) (s t : Table) : Type 0 where
  pub actors : (q : ℕ) → t.actor q ≡ s.actor q
  pub others : (q : ℕ) → (q ≡ place → ⊥) → t.goes_on q ≡ s.goes_on q
  pub less : t.left < s.left

-- In this turn one request was sent.
pub record Sending (place : ℕ) (s t : Table) : Type 0 where
  pub entry : Entry
  pub by : entry.actor ≡ s.actor place
  pub appended : t.entries ≡ s.entries ++ entry ∷ []

-- In this turn the actor's operation ended.
pub record Ending (place : ℕ) (s t : Table) : Type 0 where
  pub end : OpEnd
  pub told : t.ended ≡ s.ended ++ record { actor = s.actor place; end = end } ∷ []
  pub idle : t.goes_on place ≡ false
  pub room : s.room ≤ t.room + 1

-- The result of one turn.
abbrev pub Turned : ℕ → Table → Table → Turn → Type 0
Turned place s t GoesOn = Beside place s t × Sending place s t × (t.goes_on place ≡ true) × (t.ended ≡ s.ended) × (s.room ≤ t.room)
Turned place s t Ended = Beside place s t × Sending place s t × Ending place s t
Turned place s t Died = Beside place s t × (t.entries ≡ s.entries) × ((e : Ending place s t) × (is_memory e.end ≡ true))

-- The laws of a relation that every turn keeps: it holds of no turn, and of two turns one after another.
pub record KeepsLaws {A : Type 0} (keeps : A → A → Type 0) : Type 0 where
  pub self : (a : A) → keeps a a
  pub chain : (a b c : A) → keeps a b → keeps b c → keeps a c

-- ---- one actor alone

-- The actor at a place has sent these requests, and goes on.
pub record Going (place : ℕ) (s t : Table) : Type 0 where
  pub part : List Entry
  pub by : AllBy (s.actor place) part
  pub appended : t.entries ≡ s.entries ++ part
  pub ended : t.ended ≡ s.ended
  pub goes_on : t.goes_on place ≡ true
  pub room : s.room ≤ t.room
  pub actors : (q : ℕ) → t.actor q ≡ s.actor q
  pub others : (q : ℕ) → (q ≡ place → ⊥) → t.goes_on q ≡ s.goes_on q

-- The actor at a place has sent these requests, and its operation ended.
pub record Ran (place : ℕ) (s t : Table) : Type 0 where
  pub part : List Entry
  pub by : AllBy (s.actor place) part
  pub appended : t.entries ≡ s.entries ++ part
  pub ending : Ending place s t
  pub actors : (q : ℕ) → t.actor q ≡ s.actor q
  pub others : (q : ℕ) → (q ≡ place → ⊥) → t.goes_on q ≡ s.goes_on q

-- The result of a step of `count` turns: either that many requests were sent and the operation goes on, or it ended.
abbrev pub Stepped : ℕ → ℕ → Table → Table → Bool → Type 0
Stepped place count s t true = (g : Going place s t) × (length g.part ≡ count)
Stepped place count s t false = (r : Ran place s t) × StepEnds (is_memory r.ending.end) count r.part
