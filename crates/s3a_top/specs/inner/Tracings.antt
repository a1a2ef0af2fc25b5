-- The outcome of tracing a command, before its text is written.
use Rattle.durable_job.specs.Jobs.{KeepsOne}
use Rattle.durable_job.specs.declared.jobs.Jobs.TheVariants.{One}
use Rattle.durable_job.specs.declared.jobs.Told.{Told}
use Rattle.durable_store.specs.Works.{IsPlain, Work as Doing}
use Rattle.durable_store.specs.declared.shelf_state.ShelfState.{ShelfState}
use Rattle.durable_store.specs.declared.work.CommandAnswer.{CommandAnswer}
use Rattle.exit_status.specs.Statuses.{code}
use Rattle.job_model.specs.JobScript.{Script}
use Rattle.job_model.specs.declared.ends.EventEnd.{EventEnd}
use Rattle.job_model.specs.declared.ends.Pick.{Pick}
use Rattle.job_spec.specs.Promise.{Finished}
use Rattle.job_spec.specs.States.{verdict}
use Rattle.s3_types.specs.Store.{Content}
use Rattle.s3a_shell.specs.Commanded.{IsWork, plays}
use Rattle.s3a_top.specs.Commands.{HasReason, IsInput, reads_input}
use Rattle.s3a_top.specs.Jobs.{HasCause}
use Rattle.s3a_top.specs.Openings.{AreJobsOf, IsFound, Opens}
use Rattle.s3a_top.specs.Traces.{IsLoaded, JobTraced, StoreTraced, shown_sends, shown_status, shown_text}
use Rattle.s3a_top.specs.inner.Workings.{IsQuiet, JobHalted, StoreHalted}
use Rattle.s3a_top.specs.inner.Works.{IsWritten}
use Rattle.s3a_top.specs.declared.stop.Stop.{Stop}
use Rattle.s3a_top.specs.declared.work.Work.{Work}
use Rattle.s3a_words.specs.declared.command.Command.{Command}
use Rattle.devices.specs.Logged.{Sight, Stored}
use Rattle.std.specs.Prelude.{Err, List, Ok, Option, Result, false, true, ℕ, [], ◌≡◌}
use Rattle.trace_text.specs.Trace.{trace_text}

-- ---- after the load

-- The report of chosen attempts and ends for a job that runs alone.
abbrev pub told_alone : List Pick → List EventEnd → Told
told_alone picks ends = record { picks = picks; ends = ends; second_picks = []; second_ends = [] }

-- A job's script ran over a store to its end, and the answer is its trace.
pub record RunShown (w : Script) (c : Content) (work : Work) : Type 0 where
  pub promised : KeepsOne w c work.answer.sent.entries work.told
  pub finished : Finished w c work.answer.sent.entries work.told.picks work.told.ends
  pub status : code work.answer.due ≡ verdict w work.told.ends
  pub said : IsWritten work.answer (trace_text w c work.answer.sent.entries work.told.ends)

-- The job that was shown is the command's, and it opened with the store on the shelf.
pub record JobShown (command : Command) (told : Option Stored) (left rest : Option (List ℕ)) (work : Work) : Type 0 where
  pub script : Script
  pub opening : Content
  pub reads : AreJobsOf command left rest (One script)
  pub opens : Opens told (One script) opening
  pub shown : RunShown script opening work

-- The outcome of tracing a job.
abbrev pub JobShows : Command → Option Stored → (left rest : Option (List ℕ)) → Result Work Stop → Type 0
JobShows command told left rest (Ok work) = JobShown command told left rest work
JobShows command told left rest (Err stop) = HasCause stop command told left rest

-- The answer shows what a command does: the trace of what it sends, or the text that the command itself says.
pub record IsShownOf (before : ShelfState) (work : Doing) (answer : CommandAnswer) : Type 0 where
  pub sent : answer.sent.entries ≡ shown_sends work
  pub status : answer.due ≡ shown_status work
  pub said : IsWritten answer (shown_text before work)

-- A command was done on what is held, and the answer shows it.
pub record AnswerShown (command : Command) (bytes : List ℕ) (before : ShelfState) (answer : CommandAnswer) : Type 0 where
  pub work : Doing
  pub does : IsWork command bytes before work
  pub plain : IsPlain work
  pub shown : IsShownOf before work answer

-- The bytes of that command are its input, and it was done on what was found on the shelf.
pub record StoreShown (command : Command) (told : Option Stored) (left rest : Option (List ℕ)) (work : Work) : Type 0 where
  pub before : ShelfState
  pub found : IsFound told before
  pub bytes : List ℕ
  pub input : IsInput (reads_input command before) left rest bytes
  pub shown : AnswerShown command bytes before work.answer
  pub quiet : IsQuiet work

-- The outcome of tracing another command.
abbrev pub StoreShows : Command → Option Stored → (left rest : Option (List ℕ)) → Result Work Stop → Type 0
StoreShows command told left rest (Ok work) = StoreShown command told left rest work
StoreShows command told left rest (Err stop) = HasReason stop command told left rest

-- ---- over a shelf

-- The outcome of tracing a job, before the text of a stop is made.
abbrev pub JobTraces : {S : Type 0} → Sight S → Command → (left rest : Option (List ℕ)) (old new : S) → Result Work Stop → Type 0
JobTraces F command left rest old new (Ok work) =
    JobTraced F command left rest old new (code work.answer.due) work.answer.sent.entries work.told (IsWritten work.answer)
JobTraces F command left rest old new (Err stop) = JobHalted F command left rest old new stop

-- The outcome of tracing another command, before the text of a stop is made.
abbrev pub StoreTraces : {S : Type 0} → Sight S → Command → (left rest : Option (List ℕ)) (old new : S) → Result Work Stop → Type 0
StoreTraces F command left rest old new (Ok work) =
    StoreTraced F command left rest old new (code work.answer.due) work.answer.sent.entries (IsWritten work.answer) × IsQuiet work
StoreTraces F command left rest old new (Err stop) = StoreHalted F command left rest old new stop

-- The outcome of tracing a command: the shelf was loaded, and called for nothing else.
pub record Traces {S : Type 0} (F : Sight S) (command : Command) (left rest : Option (List ℕ)) (old new : S)
    (result : Result Work Stop) : Type 0 where
  pub job : plays command ≡ true → JobTraces F command left rest old new result
  pub store : plays command ≡ false → StoreTraces F command left rest old new result
  pub loaded : IsLoaded F old new
