-- The outcome of `trace`: the requests that a command would send are shown, and nothing is stored.
use Rattle.devices.specs.Logged.{Sight}
use Rattle.devices.specs.Logged.Call.{Load}
use Rattle.durable_job.specs.Jobs.{KeepsOne}
use Rattle.durable_job.specs.declared.jobs.Jobs.TheVariants.{One}
use Rattle.durable_job.specs.declared.jobs.Told.{Told}
use Rattle.durable_store.specs.Works.{Saves, Says, Work}
use Rattle.durable_store.specs.declared.shelf_state.ShelfState.{ShelfState}
use Rattle.durable_store.specs.declared.shelf_state.ShelfState.TheVariants.{Store}
use Rattle.exit_status.specs.Statuses.{code, written_text}
use Rattle.exit_status.specs.declared.statuses.Status.{Status}
use Rattle.job_model.specs.JobScript.{Script}
use Rattle.job_spec.specs.Promise.{Finished}
use Rattle.job_spec.specs.States.{verdict}
use Rattle.s3_types.specs.Store.{Content, new_content}
use Rattle.s3_types.specs.declared.journal.Entry.{Entry}
use Rattle.s3_types.specs.declared.limits.TheConstants.{MOST_MINIMUM}
use Rattle.s3a_shell.specs.Commanded.{IsWork}
use Rattle.s3a_top.specs.Commands.{IsInput, reads_input}
use Rattle.s3a_top.specs.Openings.{AreJobsOf, IsFound, Opens}
use Rattle.s3a_words.specs.Words.{command_of}
use Rattle.s3a_words.specs.declared.command.Command.{Command}
use Rattle.s3a_words.specs.declared.command.Command.TheVariants.{Init, Twins}
use Rattle.std.specs.Prelude.{Bool, List, None, Option, Some, bytes_eq, codes, cond, false, option_and_then, ℕ, ◌∷◌, ◌≡◌, ◌⊎◌}
use Rattle.trace_text.specs.Trace.{requests_text, trace_text}
use Rattle.exit_status.specs.declared.statuses.Status.TheVariants as statuses

-- ---- the words

-- True if the second word is `trace`.
abbrev pub asks_trace : List (List ℕ) → Bool
asks_trace (folder ∷ word ∷ words) = bytes_eq word (codes "trace")
asks_trace _ = false

-- The command, if it can be traced: any but `init` and `twins`.
abbrev pub if_traceable : Command → Option Command
if_traceable (Init minimum) = None
if_traceable Twins = None
if_traceable command = Some command

-- The command after the word `trace`, if there is one that can be traced.
abbrev pub traced_in : List (List ℕ) → Option Command
traced_in (folder ∷ words) = option_and_then if_traceable (command_of words)
traced_in _ = None

-- The command whose requests these words ask to see, if they ask for a trace.
unfoldable pub traced_command : List (List ℕ) → Option Command
traced_command words = cond (asks_trace words) (traced_in words) None

-- The command that these words name, to do or to trace.
unfoldable pub named_command : List (List ℕ) → Option Command
named_command words = cond (asks_trace words) (traced_in words) (command_of words)

-- ---- a job

-- A job ran to its end over the store that the shelf holds, and its trace is written. Nothing of it is stored.
pub record JobTraced {S : Type 0} (F : Sight S) (command : Command) (left rest : Option (List ℕ)) (old new : S)
    (due : ℕ) (es : List Entry) (told : Told) (Says : List ℕ → Type 0) : Type 0 where
  -- the script is the command's, and the run began with the shelf's store
  pub script : Script
  pub opening : Content
  pub reads : AreJobsOf command left rest (One script)
  pub opens : Opens (F.held old) (One script) opening
  -- all that is promised of a job holds of what the trace shows, and each event has its end
  pub promised : KeepsOne script opening es told
  pub finished : Finished script opening es told.picks told.ends
  -- the trace is written, with the status that the job ends with
  pub status : due ≡ verdict script told.ends
  pub said : Says (trace_text script opening es told.ends)
  -- the shelf was loaded, and called for nothing else
  pub load : F.answers Load old new

-- ---- another command

-- The store on which a command is done: a new one if none is held.
abbrev pub store_in : ShelfState → Content
store_in (Store c) = c
store_in _ = new_content MOST_MINIMUM

-- The text of a traced command: the trace of its requests, or its own text if it is refused or finds no store.
abbrev pub shown_text : ShelfState → Work → List ℕ
shown_text before (Says statuses.Done text sent) = requests_text (store_in before) sent
shown_text before (Says due text sent) = written_text due text
shown_text before (Saves opening text sent) = requests_text (store_in before) sent

-- The status with which a traced command ends.
abbrev pub shown_status : Work → Status
shown_status (Says due text sent) = due
shown_status (Saves opening text sent) = statuses.Done

-- The requests that a command sends.
abbrev pub shown_sends : Work → List Entry
shown_sends (Says due text sent) = sent
shown_sends (Saves opening text sent) = sent

-- A command was done on what the shelf holds, and the trace of its requests is written. Nothing of it is stored.
pub record StoreTraced {S : Type 0} (F : Sight S) (command : Command) (left rest : Option (List ℕ)) (old new : S)
    (due : ℕ) (es : List Entry) (Says : List ℕ → Type 0) : Type 0 where
  -- what the shelf held
  pub before : ShelfState
  pub found : IsFound (F.held old) before
  -- the bytes of the input
  pub bytes : List ℕ
  pub input : IsInput (reads_input command before) left rest bytes
  -- what the command says or stores, and what it sends for that
  pub work : Work
  pub does : IsWork command bytes before work
  pub sent : es ≡ shown_sends work
  -- the status and the text of the trace
  pub status : due ≡ code (shown_status work)
  pub said : Says (shown_text before work)
  -- the shelf was loaded, and called for nothing else
  pub load : F.answers Load old new

-- ---- the outcome of words that ask for a trace of this command

-- Holds if the shelf was called at most once, to load it.
abbrev pub IsLoaded : {S : Type 0} → Sight S → S → S → Type 0
IsLoaded F old new = (old ≡ new) ⊎ (F.fails Load old new ⊎ F.answers Load old new)
