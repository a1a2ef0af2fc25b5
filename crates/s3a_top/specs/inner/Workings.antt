-- The outcome of the program before its text is written.
use Rattle.durable_job.specs.Jobs.{nothing_told}
use Rattle.durable_job.specs.declared.jobs.Told.{Told}
use Rattle.durable_store.specs.Outcomes.{CallsBy, Tells}
use Rattle.durable_store.specs.Works.{Work as Doing}
use Rattle.durable_store.specs.declared.shelf_state.ShelfState.{ShelfState}
use Rattle.durable_store.specs.declared.work.CommandAnswer.{CommandAnswer}
use Rattle.exit_status.specs.Statuses.{code, memory_text, written_text}
use Rattle.exit_status.specs.declared.statuses.Status.{Status}
use Rattle.s3_types.specs.declared.journal.Entry.{Entry}
use Rattle.s3a_shell.specs.Commanded.{IsWork, plays, takes_input}
use Rattle.s3a_top.specs.Bytes.{TakesPart}
use Rattle.s3a_top.specs.Commands.{HasReason, IsInput, NoCommand, StoreDone, StoreStopped, WorkDone, reads_input}
use Rattle.s3a_top.specs.Jobs.{AreFew, HasCause, JobPlayed, JobStopped, MayHaveLeft}
use Rattle.s3a_top.specs.Openings.{is_sound}
use Rattle.s3a_top.specs.Statuses.{IsDue, IsIdle}
use Rattle.s3a_top.specs.inner.Statuses.{IsWorked}
use Rattle.s3a_top.specs.Stops.{status_of, stop_text}
use Rattle.s3a_top.specs.inner.Works.{IsWritten}
use Rattle.s3a_top.specs.declared.stop.Stop.{Stop}
use Rattle.s3a_top.specs.declared.stop.Stop.TheVariants.{Image, NoMemory, ReadFault, Script as BadScript, Twins as BadTwins}
use Rattle.s3a_top.specs.declared.work.Work.{Work}
use Rattle.s3a_words.specs.Words.{IsBounded}
use Rattle.s3a_words.specs.declared.command.Command.{Command}
use Rattle.devices.specs.Logged.{CrashesLeave, Sight}
use Rattle.devices.specs.Logged.Call.{Load}
use Rattle.std.specs.Prelude.{Err, IfOk, List, None, Ok, Option, Result, Some, false, true, ℕ, ◌-◌, ◌<◌, ◌^◌, ◌≡◌, ◌⊎◌}
use Rattle.exit_status.specs.declared.statuses.Status.TheVariants as statuses

-- The counts of faults of the input and of the shelf are below their limit, and the command's numbers are within their bounds.
pub record MayDo (input shelf : ℕ) (command : Command) : Type 0 where
  pub source_count : input < 2 ^ 64 - 1
  pub shelf_count : shelf < 2 ^ 64 - 1
  pub fit : IsBounded command

-- ---- the status

-- The number of the status before the text is written.
abbrev pub due_of : Result Work Stop → ℕ
due_of (Ok work) = code work.answer.due
due_of (Err stop) = code (status_of stop)

-- Work that was done has a status of its own, and the counts of faults of the input and of the shelf rose exactly if the status reports it.
pub record Counted (result : Result Work Stop) (left rest before after : ℕ) : Type 0 where
  pub own : IfOk result (λ work. IsWorked work.answer.due)
  pub read : Tells 3 (due_of result) left rest
  pub shelf : Tells 5 (due_of result) before after

-- ---- a stop

-- Holds for the stops whose text is made, so that memory may run out for it.
abbrev pub IsMade : Stop → Type 0
IsMade (BadScript e) = Unit {0}
IsMade (BadTwins e) = Unit {0}
IsMade (Image number place) = Unit {0}
IsMade _ = ⊥

-- Holds if a stop is reported by its status and text, or by `NoMemory` if memory ran out for its text.
abbrev pub IsToldOf : Stop → Status → List ℕ → Type 0
IsToldOf stop due text = ((due ≡ status_of stop) × (text ≡ stop_text stop))
    ⊎ ((due ≡ statuses.NoMemory) × ((text ≡ memory_text) × IsMade stop))

-- A stop is reported, and nothing was done.
pub record IsStopped (stop : Stop) (work : Work) : Type 0 where
  pub told : IsToldOf stop work.answer.due (written_text work.answer.due work.answer.text)
  pub idle : IsIdle work.answer.sent.entries work.told

-- Holds if the answer is the work that was done, or reports the stop.
abbrev pub IsAnswered : Result Work Stop → Work → Type 0
IsAnswered (Ok done) work = work ≡ done
IsAnswered (Err stop) work = IsStopped stop work

-- A job stopped before its first event.
pub record JobHalted {S : Type 0} (F : Sight S) (command : Command) (left rest : Option (List ℕ)) (old new : S) (stop : Stop) : Type 0 where
  pub cause : HasCause stop command (F.held old) left rest
  pub same : F.held new ≡ F.held old
  pub calls : AreFew F left rest old new
  pub leaves : CrashesLeave F old new (MayHaveLeft (F.may_leave old) command (F.held old) left rest)

-- A command stopped before anything was done.
pub record StoreHalted {S : Type 0} (F : Sight S) (command : Command) (left rest : Option (List ℕ)) (old new : S) (stop : Stop) : Type 0
  where
    pub reason : HasReason stop command (F.held old) left rest
    pub same : F.held new ≡ F.held old
    pub calls : (old ≡ new) ⊎ (F.fails Load old new ⊎ F.answers Load old new)
    pub leaves : CrashesLeave F old new (F.may_leave old)

-- ---- a command, given what was found

-- The cause of each stop after the load.
abbrev pub HasReasonIn : Stop → Command → ShelfState → (left rest : Option (List ℕ)) → Type 0
HasReasonIn ReadFault command before left rest = is_sound before × ((takes_input command ≡ true) × TakesPart left rest)
HasReasonIn NoMemory command before left rest = (rest ≡ left) ⊎ (is_sound before × ((takes_input command ≡ true) × TakesPart left rest))
HasReasonIn _ command before left rest = ⊥

-- The command was done.
pub record StoreOver {S : Type 0} (F : Sight S) (command : Command) (before : ShelfState) (left rest : Option (List ℕ)) (old new : S)
    (answer : CommandAnswer) : Type 0 where
  pub bytes : List ℕ
  pub input : IsInput (reads_input command before) left rest bytes
  pub work : Doing
  pub does : IsWork command bytes before work
  pub done : WorkDone F work old new answer.due answer.sent.entries (IsWritten answer)
  pub calls : CallsBy F work answer.due old new

-- Holds if no job ran.
abbrev pub IsQuiet : Work → Type 0
IsQuiet work = work.told ≡ nothing_told

-- The outcome of another command after the load.
abbrev pub StoreSince : {S : Type 0} → Sight S → Command → ShelfState → (left rest : Option (List ℕ)) (old new : S) → Result Work Stop
    → Type 0
StoreSince F command before left rest old new (Ok work) = StoreOver F command before left rest old new work.answer × IsQuiet work
StoreSince F command before left rest old new (Err stop) = HasReasonIn stop command before left rest × (new ≡ old)

-- ---- the outcome of a command

-- The outcome of a job, before the text of a stop is made.
abbrev pub JobGoes : {S : Type 0} → Sight S → Command → (left rest : Option (List ℕ)) (old new : S) → Result Work Stop → Type 0
JobGoes F command left rest old new (Ok work) = JobPlayed F command left rest old new (code work.answer.due) work.answer.sent.entries
    work.told (IsWritten work.answer)
JobGoes F command left rest old new (Err stop) = JobHalted F command left rest old new stop

-- The outcome of another command, before the text of a stop is made.
abbrev pub StoreGoes : {S : Type 0} → Sight S → Command → (left rest : Option (List ℕ)) (old new : S) → Result Work Stop → Type 0
StoreGoes F command left rest old new (Ok work) = StoreDone F command left rest old new (code work.answer.due) work.answer.sent.entries
    (IsWritten work.answer) × IsQuiet work
StoreGoes F command left rest old new (Err stop) = StoreHalted F command left rest old new stop

-- The outcome of a job or of another command.
pub record Goes {S : Type 0} (F : Sight S) (command : Command) (left rest : Option (List ℕ)) (old new : S) (result : Result Work Stop) :
    Type 0 where
  pub job : plays command ≡ true → JobGoes F command left rest old new result
  pub store : plays command ≡ false → StoreGoes F command left rest old new result

-- ---- the outcome of words that name this command, given the counts of faults of the input and of the shelf before and after

-- The status before writing is one of the program's, and what was done or stopped is as the headline has it.
pub record Comes {S : Type 0} (F : Sight S) (said : Option Command) (left rest : Option (List ℕ)) (old new : S) (i j m n status : ℕ)
    (es : List Entry) (told : Told) (Says : List ℕ → Type 0) : Type 0 where
  pub due : IsDue status
  pub read : Tells 3 status i j
  pub shelf : Tells 5 status m n
  pub job : (c : Command) → said ≡ Some c → plays c ≡ true → JobPlayed F c left rest old new status es told Says
      ⊎ JobStopped F c left rest old new status es told Says
  pub store : (c : Command) → said ≡ Some c → plays c ≡ false → StoreDone F c left rest old new status es Says
      ⊎ StoreStopped F c left rest old new status es Says
  pub quiet : (c : Command) → said ≡ Some c → plays c ≡ false → told ≡ nothing_told
  pub usage : said ≡ None → NoCommand status old new es told Says
  pub command : status ≡ 2 → said ≡ None
