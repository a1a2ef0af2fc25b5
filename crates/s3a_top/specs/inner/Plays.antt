-- The outcome of a job after the shelf was loaded.
use Rattle.durable_job.specs.declared.jobs.Jobs.{Jobs}
use Rattle.durable_job.specs.declared.playing.Kept.{Kept}
use Rattle.exit_status.specs.Statuses.{code, memory_text, shelf_text}
use Rattle.exit_status.specs.declared.statuses.Status.{Status}
use Rattle.journal_log.specs.Crashes.{WhereTold}
use Rattle.journal_log.specs.Kept.{IsMoment}
use Rattle.s3_types.specs.Store.{Content}
use Rattle.s3a_top.specs.Jobs.{HasCause, JobRan, MayHaveLeft, job_text}
use Rattle.s3a_top.specs.Openings.{AreJobsOf, Opens}
use Rattle.s3a_top.specs.inner.Works.{IsWritten}
use Rattle.s3a_top.specs.declared.stop.Stop.{Stop}
use Rattle.s3a_top.specs.declared.work.Work.{Work}
use Rattle.s3a_words.specs.declared.command.Command.{Command}
use Rattle.devices.specs.Logged.{CrashesLeave, Sight, fresh}
use Rattle.devices.specs.Logged.Call.{Replace}
use Rattle.devices.specs.declared.kept.ShelfStop.{ShelfStop}
use Rattle.devices.specs.declared.kept.ShelfStop.TheVariants.{Failed, NoMemory}
use Rattle.std.specs.Prelude.{Err, List, None, Ok, Option, Result, Some, length, ℕ, ◌≡◌, ◌⊎◌}
use Rattle.store_image.specs.Image.{image}
use Rattle.exit_status.specs.declared.statuses.Status.TheVariants as statuses

-- ---- the text of a job

-- Holds for the numbers of the verdicts: 0, 1, 8 and 9.
abbrev pub IsFinal : ℕ → Type 0
IsFinal due = (due ≡ 0) ⊎ ((due ≡ 1) ⊎ ((due ≡ 8) ⊎ (due ≡ 9)))

-- Holds for the statuses with these numbers.
abbrev pub IsVerdict : Status → Type 0
IsVerdict statuses.Done = Unit {0}
IsVerdict statuses.Refused = Unit {0}
IsVerdict statuses.StoreFault = Unit {0}
IsVerdict statuses.NoMemory = Unit {0}
IsVerdict _ = ⊥

-- Holds if this status fits why the run stopped: a verdict if it went to its end.
abbrev pub IsOfStop : Option ShelfStop → Status → Type 0
IsOfStop None due = IsVerdict due
IsOfStop (Some Failed) due = due ≡ statuses.ShelfFault
IsOfStop (Some NoMemory) due = due ≡ statuses.NoMemory

-- Holds if this is the jobs' text with their verdict, or the line for memory that ran out, with status 9.
abbrev pub IsReported : Command → Kept → (due : ℕ) → List ℕ → Type 0
IsReported command kept due text = ((due ≡ kept.verdict) × (text ≡ job_text command due (length kept.journal.entries) kept.told kept.jobs))
    ⊎ ((due ≡ 9) × (text ≡ memory_text))

-- Holds if these are the status and the text, according to why the run stopped.
abbrev pub IsTold : Option ShelfStop → Command → Kept → (due : ℕ) → List ℕ → Type 0
IsTold None command kept due text = IsReported command kept due text
IsTold (Some Failed) command kept due text = (due ≡ 5) × (text ≡ shelf_text)
IsTold (Some NoMemory) command kept due text = (due ≡ 9) × (text ≡ memory_text)

-- ---- the outcome

-- The jobs ran. Up to some state a crash left what a crash before might leave, or the image of the opening content; after that state it
-- left some point of the run.
pub record JobOver {S : Type 0} (F : Sight S) (command : Command) (left rest : Option (List ℕ)) (old new : S) (work : Work) : Type 0 where
  pub jobs : Jobs
  pub opening : Content
  pub reads : AreJobsOf command left rest jobs
  pub opens : Opens (F.held old) jobs opening
  pub ran : JobRan F command jobs opening old new (code work.answer.due) work.answer.sent.entries work.told (IsWritten work.answer)
  pub mid : S
  pub replaced : CrashesLeave F old mid (λ h. F.may_leave old h ⊎ (h ≡ fresh (image opening)))
  pub appended : CrashesLeave F mid new (λ h. WhereTold (F.held new) (IsMoment opening work.answer.sent.entries h))

-- A job stopped before its first event: the shelf was not called, or called once to take an image, which failed.
pub record JobBroke {S : Type 0} (F : Sight S) (command : Command) (left rest : Option (List ℕ)) (old new : S) (stop : Stop) : Type 0 where
  pub cause : HasCause stop command (F.held old) left rest
  pub same : F.held new ≡ F.held old
  pub calls : (old ≡ new) ⊎ F.fails Replace old new
  pub leaves : CrashesLeave F old new (MayHaveLeft (F.may_leave old) command (F.held old) left rest)

-- The outcome of a job after the load.
abbrev pub JobSince : {S : Type 0} → Sight S → Command → (left rest : Option (List ℕ)) (old new : S) → Result Work Stop → Type 0
JobSince F command left rest old new (Ok work) = JobOver F command left rest old new work
JobSince F command left rest old new (Err stop) = JobBroke F command left rest old new stop
