-- The turns of the actors: which entries an event has.
use Rattle.job_model.specs.JobScript.{Script}
use Rattle.job_model.specs.declared.ends.ActorEnd.{ActorEnd}
use Rattle.job_model.specs.declared.ends.EventEnd.{EventEnd}
use Rattle.job_model.specs.declared.ends.EventEnd.TheVariants.{Done, Ended, Mixed}
use Rattle.job_model.specs.declared.ends.OpEnd.{OpEnd}
use Rattle.job_model.specs.declared.events.Event.{Event}
use Rattle.job_model.specs.declared.events.Event.TheVariants.{Do, Kill, Mix, Restart, Run, Start, Step}
use Rattle.job_model.specs.declared.events.Op.{Op}
use Rattle.job_model.specs.declared.states.ActorState.{ActorState}
use Rattle.job_model.specs.declared.states.Life.{Life}
use Rattle.job_model.specs.declared.states.Life.TheVariants.{Busy}
use Rattle.job_spec.specs.States.{actors, same_actor}
use Rattle.s3_types.specs.declared.journal.Entry.{Entry}
use Rattle.s3_types.specs.declared.request.Actor.{Actor}
use Rattle.s3_types.specs.declared.request.Actor.TheVariants.{Attempt, Driver, Shell}
use Rattle.std.specs.List.{filter, list_any, remove}
use Rattle.std.specs.Prelude.{Bool, List, Some, cond, false, length, nat_eq, nat_le, nat_lt, slice_get, suc, true, zero, ℕ, [], ◌%◌, ◌&&◌}
use Rattle.std.specs.Prelude.{◌*◌, ◌++◌, ◌+◌, ◌/◌, ◌<◌, ◌^◌, ◌∷◌, ◌≡◌, ◌≤◌}
use Rattle.job_model.specs.declared.events.Op.TheVariants as ops
use Rattle.job_model.specs.declared.ends.OpEnd.TheVariants as ends
use Rattle.job_model.specs.declared.ends.TaskEnd.TheVariants as tasks
use Rattle.job_model.specs.declared.ends.SetupEnd.TheVariants as setups
use Rattle.job_model.specs.declared.ends.CheckEnd.TheVariants as checks
use Rattle.job_model.specs.declared.ends.CommitEnd.TheVariants as commits
use Rattle.job_model.specs.declared.ends.CleanEnd.TheVariants as cleans

-- ---- parts of a journal

-- True if the entry belongs to one of the job's actors.
abbrev pub is_own : Actor → Bool
is_own Shell = false
is_own _ = true

-- The entries of the job's own actors.
abbrev pub own : List Entry → List Entry
own es = filter (λ e. is_own e.actor) es

-- The job's own entries of event k.
abbrev pub of_event : ℕ → List Entry → List Entry
of_event k es = filter (λ e. is_own e.actor && nat_eq e.event k) es

-- The entries of the events up to k.
abbrev pub until : ℕ → List Entry → List Entry
until k es = filter (λ e. nat_le e.event k) es

-- The entries of the events before k.
abbrev pub before : ℕ → List Entry → List Entry
before k es = filter (λ e. nat_lt e.event k) es

-- The entries of event k and of later ones.
abbrev pub since : ℕ → List Entry → List Entry
since k es = filter (λ e. nat_le k e.event) es

-- The entries of an actor.
abbrev pub by_actor : Actor → List Entry → List Entry
by_actor a es = filter (λ e. same_actor e.actor a) es

-- The entries up to and with the last one of an actor.
abbrev pub until_last : Actor → List Entry → List Entry
until_last a [] = []
until_last a (e ∷ es) = cond (list_any (λ x. same_actor x.actor a) (e ∷ es)) (e ∷ until_last a es) []

-- Holds if all entries belong to the actor.
abbrev pub AllBy : Actor → List Entry → Type 0
AllBy a [] = Unit {0}
AllBy a (e ∷ es) = (e.actor ≡ a) × AllBy a es

-- ---- a mix

-- The i-th number of the random sequence of a seed.
abbrev pub draw : ℕ → ℕ → ℕ
draw seed zero = seed % 2 ^ 31
draw seed (suc i) = (1103515245 * draw seed i + 12345) % 2 ^ 31

-- The place of the i-th sender among n busy actors.
abbrev pub place : ℕ → ℕ → ℕ → ℕ
place seed i n = draw seed i / 65536 % n

-- True if the actor runs an operation.
abbrev pub is_busy : Life → Bool
is_busy Busy = true
is_busy _ = false

-- The busy actors: the driver first, then the attempts in script order.
abbrev pub busy_actors : Script → (Actor → ActorState) → List Actor
busy_actors w st = filter (λ a. is_busy (st a).life) (actors w)

-- True if the operation ended because memory ran out.
abbrev pub is_memory : OpEnd → Bool
is_memory ends.NoMemory = true
is_memory (ends.Setup setups.NoMemory) = true
is_memory (ends.Commit commits.NoMemory) = true
is_memory (ends.Clean cleans.NoMemory) = true
is_memory (ends.Task tasks.NoMemory) = true
is_memory (ends.Check checks.NoMemory) = true
is_memory _ = false

-- True if this end says that memory ran out, and fits this operation of this actor.
abbrev pub is_wanting : Actor → Op → OpEnd → Bool
is_wanting a op ends.NoMemory = true
is_wanting Driver ops.Setup (ends.Setup setups.NoMemory) = true
is_wanting Driver ops.Commit (ends.Commit commits.NoMemory) = true
is_wanting Driver ops.Commit (ends.Check checks.NoMemory) = true
is_wanting Driver ops.Abort (ends.Clean cleans.NoMemory) = true
is_wanting Driver ops.Clean (ends.Clean cleans.NoMemory) = true
is_wanting (Attempt task attempt) op (ends.Task tasks.NoMemory) = true
is_wanting _ _ _ = false

-- The states of a mix that began with the busy actors `first`: the entries so far, the ends so far, and the actors that are still busy.
pub data Mixing (seed : ℕ) (first : List Actor) : List Entry → List ActorEnd → List Actor → Type 0 where
  mix_begins : Mixing seed first [] [] first
  -- The chosen actor sends.
  mix_sends : (es : List Entry) (xs : List ActorEnd) (busy : List Actor) (e : Entry) → Mixing seed first es xs busy
      → slice_get busy (place seed (length es + 1) (length busy)) ≡ Some e.actor → Mixing seed first (es ++ e ∷ []) xs busy
  -- The chosen actor sends the last request of its operation.
  mix_ends : (es : List Entry) (xs : List ActorEnd) (busy : List Actor) (e : Entry) (end : OpEnd) → Mixing seed first es xs busy
      → slice_get busy (place seed (length es + 1) (length busy)) ≡ Some e.actor
      → Mixing seed first (es ++ e ∷ []) (xs ++ record { actor = e.actor; end = end } ∷ [])
      (remove busy (place seed (length es + 1) (length busy)))
  -- An actor runs out of memory.
  mix_dies : (es : List Entry) (xs : List ActorEnd) (busy : List Actor) (i : ℕ) (a : Actor) (end : OpEnd) → Mixing seed first es xs busy
      → slice_get busy i ≡ Some a → is_memory end ≡ true → Mixing seed first es (xs ++ record { actor = a; end = end } ∷ []) (remove busy i)

-- ---- the table of turns

-- Holds if a step that ends an operation sends 1 to n requests; it may send none if memory ran out.
abbrev pub StepEnds : Bool → ℕ → List Entry → Type 0
StepEnds true n es = length es ≤ n
StepEnds false n es = (0 < length es) × (length es ≤ n)

-- The entries of an event that is not refused, by its end and the states before it.
abbrev pub Turns : Script → (Actor → ActorState) → Event → EventEnd → List Entry → Type 0
Turns w st (Do a op) (Ended e) es = AllBy a es
Turns w st (Start a op) Done es = es ≡ []
Turns w st (Start a op) (Ended e) es = es ≡ []
Turns w st (Step a n) Done es = AllBy a es × (length es ≡ n)
Turns w st (Step a n) (Ended e) es = AllBy a es × StepEnds (is_memory e) n es
Turns w st (Run a) (Ended e) es = AllBy a es
Turns w st (Kill a) Done es = es ≡ []
Turns w st (Mix seed) (Mixed xs) es = Mixing seed (busy_actors w st) es xs []
Turns w st Restart Done es = es ≡ []
Turns w st ev end es = ⊥

-- The entries of an event that has begun and not ended, by the states before it.
abbrev pub OpenTurns : Script → (Actor → ActorState) → Event → List Entry → Type 0
OpenTurns w st (Do a op) es = AllBy a es
OpenTurns w st (Step a n) es = AllBy a es × (length es ≤ n)
OpenTurns w st (Run a) es = AllBy a es
OpenTurns w st (Mix seed) es = (xs : List ActorEnd) × (busy : List Actor) × Mixing seed (busy_actors w st) es xs busy
OpenTurns w st _ es = es ≡ []

-- Holds if no entry belongs to an event before n.
abbrev pub AllFrom : ℕ → List Entry → Type 0
AllFrom n [] = Unit {0}
AllFrom n (e ∷ es) = (n ≤ e.event) × AllFrom n es

-- Holds if the numbers of the entries' events never fall.
abbrev pub IsRising : List Entry → Type 0
IsRising [] = Unit {0}
IsRising (e ∷ es) = AllFrom e.event es × IsRising es

-- Holds if no entry belongs to an event after n.
abbrev pub AllUpTo : ℕ → List Entry → Type 0
AllUpTo n [] = Unit {0}
AllUpTo n (e ∷ es) = (e.event ≤ n) × AllUpTo n es
