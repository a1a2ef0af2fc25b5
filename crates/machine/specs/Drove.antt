-- What has happened after one send, and after driving a machine alone.
use Rattle.machine.specs.Standing.{Faulted, Standing}
use Rattle.machine.specs.Tries.{IsFaultBy, Tried}
use Rattle.machine.specs.Turns.{AreBy, broken, retried, turn_of}
use Rattle.machine.specs.declared.driving.DriveStop.{DriveStop}
use Rattle.machine.specs.declared.driving.DriveStop.TheVariants.{NoMemory, StoreFault}
use Rattle.machine.specs.declared.retrying.Retrying.{Retrying}
use Rattle.machine.specs.declared.retrying.Turn.{Turn}
use Rattle.retries.specs.Operation.{Follows, run}
use Rattle.retries.specs.Retries.{Item, fresh, has_worn, step, wants_of}
use Rattle.s3_types.specs.Answer.{answer}
use Rattle.s3_types.specs.Foretold.{AreForetold, IsForetold}
use Rattle.s3_types.specs.Moment.{AreHonest, IsHonestOutcome, after_all, effect, is_unanswered}
use Rattle.s3_types.specs.Store.{Scene}
use Rattle.s3_types.specs.declared.fates.Fate.{Fate}
use Rattle.s3_types.specs.declared.journal.Entry.{Entry}
use Rattle.s3_types.specs.declared.reply.Reply.{Reply}
use Rattle.s3_types.specs.declared.request.Actor.{Actor}
use Rattle.s3_types.specs.declared.request.Request.{Request}
use Rattle.std.specs.Prelude.{Bool, Err, IsTrue, List, None, Ok, Option, Result, Some, false, true, ℕ, [], ◌++◌, ◌+◌, ◌<◌, ◌∷◌, ◌≡◌, ◌⊎◌}

-- From scene s to s' these entries are one run of the machine, started at t.
pub record IsRun {M : Type 0} (wants : M → Option Request) (after : M → Item → M) (actor : Actor) (event : ℕ) (t : Retrying M) (s : Scene)
    (part : List Entry) (s' : Scene) : Type 0 where
  pub by : AreBy actor event part
  pub honest : AreHonest s part
  pub follows : Follows (wants_of wants) (step t.retries after) (retried t) part
  pub scene : s' ≡ after_all s part

-- The machine t made this one send: its entry is honest, and s' is the scene after it.
pub record IsSent {M : Type 0} (wants : M → Option Request) (actor : Actor) (event : ℕ) (t : Retrying M) (s : Scene) (e : Entry)
    (s' : Scene) : Type 0 where
  pub by : e.actor ≡ actor
  pub during : e.event ≡ event
  pub wanted : wants t.machine ≡ Some e.request
  pub honest : IsHonestOutcome e.outcome (answer s e.request)
  pub scene : s' ≡ effect s e.request e.outcome

-- Either the machine had no next request and nothing was sent; or one send was made, and its entry appended.
abbrev pub Sent : {M : Type 0} → (M → Option Request) → (M → Item → M) → Actor → ℕ → Retrying M → Retrying M → Scene → Scene → List Entry
    → List Entry → ℕ → ℕ → (ℕ → Option Fate) → ℕ → ℕ → Option Turn → Type 0
Sent wants after actor event t t' s s' old new before now told first requests None = (wants t.machine ≡ None) × (t' ≡ t) × (s' ≡ s)
    × (now ≡ before) × (new ≡ old)
Sent wants after actor event t t' s s' old new before now told first requests (Some turn) = (e : Entry)
    × IsSent wants actor event t s e s'
    × (new ≡ old ++ e ∷ [])
    × (retried t' ≡ step t.retries after (retried t) e.outcome)
    × (t'.retries ≡ t.retries)
    × (turn ≡ turn_of (retried t) e.outcome)
    × (IsTrue (is_unanswered e.outcome) → before < now)
    × IsForetold (told (first + 1)) e.outcome
    × (requests ≡ first + 1)

-- Memory ran out. If it did before the send, everything is as before; if after it, the send's entry is there and the machine is broken
-- off.
abbrev pub SentNone : {M : Type 0} → (M → Option Request) → (M → Item → M) → Actor → ℕ → Retrying M → Retrying M → Scene → Scene
    → List Entry → List Entry → (ℕ → Option Fate) → ℕ → Type 0
SentNone wants after actor event t t' s s' old new told first =
    ((new ≡ old) × (s' ≡ s) × (t' ≡ t))
    ⊎ ((e : Entry)
    × IsSent wants actor event t s e s'
    × (new ≡ old ++ e ∷ [])
    × IsForetold (told (first + 1)) e.outcome
    × (retried t' ≡ broken after (retried t))
    × (t'.retries ≡ t.retries))

-- The machine's standing, after a request exhausted its retries or not.
abbrev pub standing_after : Bool → Standing → Standing
standing_after true x = Faulted
standing_after false x = x

-- The machine is at the point to which these entries lead, and has no next request.
pub record IsOver {M : Type 0} (wants : M → Option Request) (after : M → Item → M) (ready : M → Scene → Bool → Type 0)
    (standing : M → Standing) (t : Retrying M) (part : List Entry) (t' : Retrying M) (s' : Scene) (worn : Bool) : Type 0 where
  pub there : retried t' ≡ run (step t.retries after) (retried t) part
  pub retries : t'.retries ≡ t.retries
  pub over : wants t'.machine ≡ None
  pub ready_still : ready t'.machine s' t'.repeated
  pub wore : has_worn t.retries after (retried t) part ≡ worn
  pub stands : standing t'.machine ≡ standing_after worn (standing t.machine)

-- StoreFault came exactly if a request exhausted its retries here, and then something was lost.
abbrev pub Ended : {T : Type 0} → (Bool → Type 0) → ℕ → ℕ → Result T DriveStop → Type 0
Ended over before now (Ok x) = over false
Ended over before now (Err StoreFault) = over true × (before < now)
Ended over before now (Err NoMemory) = Unit {0}

-- A machine that was alone was driven from t, scene s and the entries `old` to t', s' and the entries `new`.
pub record Drove {M T : Type 0} (wants : M → Option Request) (after : M → Item → M) (ready : M → Scene → Bool → Type 0)
    (standing : M → Standing) (actor : Actor) (event : ℕ) (t t' : Retrying M) (s s' : Scene) (old new : List Entry) (before now : ℕ)
    (told : ℕ → Option Fate) (first : ℕ) (result : Result T DriveStop) : Type 0 where
  pub part : List Entry
  pub appended : new ≡ old ++ part
  pub is_run : IsRun wants after actor event t s part s'
  pub foretold : AreForetold told (first + 1) part
  pub tried : Tried t.retries t.spare part result
  -- This holds if no send of its present request came before.
  pub literal : retried t ≡ fresh t.retries t.machine → IsFaultBy t.retries part result
  pub ended : Ended (IsOver wants after ready standing t part t' s') before now result

-- The answer that the store gives to the present request fits.
abbrev pub DueFits : {M : Type 0} → (M → Option Request) → (M → Reply → Bool → Type 0) → Retrying M → Scene → Type 0
DueFits wants fits t s = (r : Request) → wants t.machine ≡ Some r → fits t.machine (answer s r) t.repeated
