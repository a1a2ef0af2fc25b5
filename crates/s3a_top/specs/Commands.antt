-- The outcome of the commands that run no job, and of words that are no command.
use Rattle.durable_job.specs.declared.jobs.Told.{Told}
use Rattle.durable_store.specs.Outcomes.{CallsBy, HasImages, IsAnswer, IsDurableNow, IsHeld, IsSound, MightLeave, WhereSound}
use Rattle.durable_store.specs.Works.{Work}
use Rattle.durable_store.specs.declared.shelf_state.ShelfState.{ShelfState}
use Rattle.durable_store.specs.declared.shelf_state.ShelfState.TheVariants.{Faulty}
use Rattle.exit_status.specs.Statuses.{code, memory_text, usage_text, written_text}
use Rattle.exit_status.specs.declared.statuses.Status.{Status}
use Rattle.exit_status.specs.declared.statuses.Status.TheVariants.{Refused}
use Rattle.s3_types.specs.declared.journal.Entry.{Entry}
use Rattle.s3a_shell.specs.Commanded.{IsWork, takes_input}
use Rattle.s3a_shell.specs.Doings.{is_of_shell, only_looks}
use Rattle.s3a_shell.specs.Sendings.{has_changed}
use Rattle.s3a_top.specs.Bytes.{IsRead, TakesPart}
use Rattle.s3a_top.specs.Openings.{IsFound, IsSoundly}
use Rattle.s3a_top.specs.Statuses.{IsIdle}
use Rattle.s3a_top.specs.Stops.{status_of, stop_text}
use Rattle.s3a_top.specs.declared.stop.Stop.{Stop}
use Rattle.s3a_top.specs.declared.stop.Stop.TheVariants.{NoMemory, ReadFault, ShelfFault}
use Rattle.s3a_words.specs.declared.command.Command.{Command}
use Rattle.s3a_words.specs.declared.command.Command.TheVariants.{Job, Twins}
use Rattle.devices.specs.Logged.{CrashesLeave, IsDurable, Sight, Stored}
use Rattle.devices.specs.Logged.Call.{Load}
use Rattle.std.specs.Prelude.{Bool, List, None, Option, Some, false, true, ℕ, [], ◌≡◌, ◌⊎◌}

-- The outcome of words that are no command: the usage line, or the line for memory that ran out, is written, and nothing is done.
pub record NoCommand {S : Type 0} (due : ℕ) (old new : S) (es : List Entry) (told : Told) (Says : List ℕ → Type 0) : Type 0 where
  pub said : ((due ≡ 2) × Says usage_text) ⊎ ((due ≡ 9) × Says memory_text)
  pub idle : IsIdle es told
  pub untouched : new ≡ old

-- ---- what is taken from the input

-- True if the command that the words name may read the input.
abbrev pub may_read : Option Command → Bool
may_read None = false
may_read (Some Job) = true
may_read (Some Twins) = true
may_read (Some command) = takes_input command

-- True if the command reads its input: it has one, and the shelf holds a store or nothing.
abbrev pub reads_input : Command → ShelfState → Bool
reads_input command (Faulty number place) = false
reads_input command before = takes_input command

-- Holds if these are the bytes of the command's input: if it reads one, all that was left, at most `MOST_SCRIPT_BYTES + 1`; else none, and
-- nothing was taken from the input.
abbrev pub IsInput : Bool → (left rest : Option (List ℕ)) → List ℕ → Type 0
IsInput true left rest bytes = IsRead left rest bytes
IsInput false left rest bytes = (bytes ≡ []) × (rest ≡ left)

-- ---- a command that stopped before it did anything

-- The cause of each stop: the shelf failed before the input was read; or the input failed; or memory ran out.
abbrev pub HasReason : Stop → Command → Option Stored → (left rest : Option (List ℕ)) → Type 0
HasReason ShelfFault command told left rest = rest ≡ left
HasReason ReadFault command told left rest = IsSoundly told × ((takes_input command ≡ true) × TakesPart left rest)
HasReason NoMemory command told left rest = (rest ≡ left) ⊎ (IsSoundly told × ((takes_input command ≡ true) × TakesPart left rest))
HasReason _ command told left rest = ⊥

-- Another command stopped before it did anything: its status has its cause, and the shelf holds what it held.
pub record StoreStopped {S : Type 0} (F : Sight S) (command : Command) (left rest : Option (List ℕ)) (old new : S)
    (due : ℕ) (es : List Entry) (Says : List ℕ → Type 0) : Type 0 where
  pub stop : Stop
  pub status : due ≡ code (status_of stop)
  pub reason : HasReason stop command (F.held old) left rest
  pub text : Says (stop_text stop)
  -- nothing was sent, and the shelf holds what it held
  pub entries : es ≡ []
  pub same : F.held new ≡ F.held old
  -- the shelf was called at most once, to load it
  pub calls : (old ≡ new) ⊎ (F.fails Load old new ⊎ F.answers Load old new)
  pub leaves : CrashesLeave F old new (F.may_leave old)

-- ---- a command that was done

-- The outcome of this work, with this status.
pub record WorkDone {S : Type 0} (F : Sight S) (work : Work) (old new : S) (status : Status) (es : List Entry) (Says : List ℕ → Type 0) :
    Type 0 where
  pub text : Option (List ℕ)
  pub answer : IsAnswer work status text es
  pub said : Says (written_text status text)
  -- what the shelf holds afterwards, what a crash meanwhile might have left, and what a crash afterwards leaves
  pub holds : IsHeld work status (F.held old) (F.held new)
  pub leaves : CrashesLeave F old new (MightLeave work (F.held new) (F.may_leave old))
  pub durable : IsDurableNow work status (F.held new) (F.may_leave new)
  -- if the opening store can be written as an image, so can each store on the way
  pub images : HasImages work

-- The outcome of a command that was done on what the shelf holds, with the bytes of its input.
pub record StoreDone {S : Type 0} (F : Sight S) (command : Command) (left rest : Option (List ℕ)) (old new : S)
    (due : ℕ) (es : List Entry) (Says : List ℕ → Type 0) : Type 0 where
  -- what the shelf held
  pub before : ShelfState
  pub found : IsFound (F.held old) before
  -- a store that was found can be written as an image
  pub sound : IsSound before
  -- the bytes of the input
  pub bytes : List ℕ
  pub input : IsInput (reads_input command before) left rest bytes
  -- what the command says or stores
  pub work : Work
  pub does : IsWork command bytes before work
  pub status : Status
  pub due_is : due ≡ code status
  pub done : WorkDone F work old new status es Says
  -- the shelf was loaded, and then called as the work needs
  pub loaded : S
  pub load : F.answers Load old loaded
  -- if what was found has no fault, a crash after the load leaves what the shelf holds
  pub lasts : WhereSound before (IsDurable (F.held loaded) (F.may_leave loaded))
  pub calls : CallsBy F work status loaded new
  -- a command that only looks, was refused, or sent nothing that may change the store leaves the shelf as it was loaded
  pub untouched : is_of_shell command ≡ true → (only_looks command ≡ true) ⊎ ((status ≡ Refused) ⊎ (has_changed es ≡ false)) → new ≡ loaded
