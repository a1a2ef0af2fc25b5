-- The outcome of one job, or of two at one destination: they ran, or stopped before their first event.
use Rattle.durable_job.specs.Jobs.{AreFinished, ArePromised, verdict_of}
use Rattle.durable_job.specs.Pace.{LacksSince}
use Rattle.durable_job.specs.Played.{HaveEventsLeft}
use Rattle.durable_job.specs.declared.jobs.Jobs.{Jobs}
use Rattle.durable_job.specs.declared.jobs.Jobs.TheVariants.{One, Two}
use Rattle.durable_job.specs.declared.jobs.Told.{Told}
use Rattle.durable_store.specs.Stores.{found}
use Rattle.durable_store.specs.declared.shelf_state.ShelfState.TheVariants.{Faulty}
use Rattle.exit_status.specs.Statuses.{code, memory_text, shelf_text}
use Rattle.job_gen.specs.Summary.{summary}
use Rattle.job_model.specs.JobScript.{Script}
use Rattle.job_report.specs.TwinText.{twins_report}
use Rattle.job_script.specs.Script.{script_of}
use Rattle.job_spec.specs.ReportText.{report_text}
use Rattle.journal_log.specs.Appends.{AreCalled, AreStopped}
use Rattle.journal_log.specs.Changes.{changes}
use Rattle.journal_log.specs.Crashes.{SurvivesCrashes}
use Rattle.journal_log.specs.Kept.{Holds, HoldsPart, IsKept}
use Rattle.journal_log.specs.Made.{KeepsImages}
use Rattle.s3_types.specs.Store.{Content}
use Rattle.s3_types.specs.declared.journal.Entry.{Entry}
use Rattle.s3a_top.specs.Bytes.{IsTaken, TakesPart}
use Rattle.s3a_top.specs.Openings.{AreJobsOf, IsSoundly, Opens, TakesJobs, reads_jobs}
use Rattle.s3a_top.specs.Statuses.{IsIdle}
use Rattle.s3a_top.specs.Stops.{status_of, stop_text}
use Rattle.s3a_top.specs.declared.stop.Stop.{Stop}
use Rattle.s3a_top.specs.declared.stop.Stop.TheVariants.{Image, NoMemory, ReadFault, Script as BadScript, ShelfFault, Twins as BadTwins}
use Rattle.s3a_top.specs.declared.stop.Stop.TheVariants.{Usage}
use Rattle.s3a_words.specs.declared.command.Command.{Command}
use Rattle.s3a_words.specs.declared.command.Command.TheVariants.{Gen, Job, Twins}
use Rattle.devices.specs.Logged.{CrashesLeave, Holding, IsDurable, Sight, Stored, fresh}
use Rattle.devices.specs.Logged.Call.{Load, Replace}
use Rattle.std.specs.Prelude.{Err, List, None, Option, Result, Some, length, true, ℕ, ◌≡◌, ◌≢◌, ◌⊎◌}
use Rattle.store_image.specs.Content.{IsContent}
use Rattle.store_image.specs.Image.{image}
use Rattle.twin_script.specs.Twins.{twins_of}
use Rattle.job_script.specs.declared.fault.ScriptFault.TheVariants as faults
use Rattle.twin_script.specs.TwinScripts as twin_scripts
use Rattle.twin_script.specs.declared.fault.TwinFault.TheVariants as twin_faults

-- ---- a job that stopped before its first event

-- Holds if the shelf holds something that is no store, with this fault. Says nothing if what the shelf holds is not known.
abbrev pub IsFaulty : Option Stored → ℕ → ℕ → Type 0
IsFaulty None number place = Unit {0}
IsFaulty (Some s) number place = found s ≡ Faulty number place

-- Holds if reading the whole input gives this fault. Says nothing if the input's bytes are not known.
abbrev pub IsFaultOf : {A E : Type 0} → (List ℕ → Result A E) → Option (List ℕ) → E → Type 0
IsFaultOf read None e = Unit {0}
IsFaultOf read (Some bytes) e = read bytes ≡ Err e

-- The cause of each stop. The shelf is loaded before the input is read: nothing is taken from the input unless the shelf holds a store or
-- nothing.
-- A read fault comes only to `job` and `twins`, an invalid script only to `job`, and two invalid scripts or their order only to `twins`.
-- A script is judged after the input was taken to its end or to `MOST_SCRIPT_BYTES + 1` bytes.
abbrev pub HasCause : Stop → Command → Option Stored → (left rest : Option (List ℕ)) → Type 0
HasCause Usage command told left rest = ⊥
HasCause ReadFault command told left rest = IsSoundly told × ((reads_jobs command ≡ true) × TakesPart left rest)
HasCause ShelfFault command told left rest = TakesJobs command left rest
HasCause (BadScript e) command told left rest = IsSoundly told
    × ((command ≡ Job) × (IsFaultOf script_of left e × ((e ≢ faults.NoMemory) × IsTaken left rest)))
HasCause (BadTwins e) command told left rest = IsSoundly told
    × ((command ≡ Twins) × (IsFaultOf twins_of left e × ((e ≢ twin_faults.NoMemory) × IsTaken left rest)))
HasCause (Image number place) command told left rest = IsFaulty told number place × (rest ≡ left)
HasCause NoMemory command told left rest = (rest ≡ left) ⊎ (IsSoundly told × ((reads_jobs command ≡ true) × TakesPart left rest))

-- Holds if the shelf was called at most twice: to load it, and to take an image, which failed. If the load failed, nothing was taken from
-- the input.
abbrev pub AreFew : {S : Type 0} → Sight S → (left rest : Option (List ℕ)) → S → S → Type 0
AreFew {S} F left rest old new = ((old ≡ new) × (rest ≡ left))
    ⊎ ((F.fails Load old new × (rest ≡ left)) ⊎ ((mid : S) × (F.answers Load old mid × ((mid ≡ new) ⊎ F.fails Replace mid new))))

-- What a crash before a job's first event might have left: what a crash at the beginning may leave, or the image of the job's opening
-- store.
abbrev pub MayHaveLeft : (at_first : Holding → Type 0) → Command → Option Stored → (left rest : Option (List ℕ)) → Holding → Type 0
MayHaveLeft at_first command told left rest h = at_first h
    ⊎ ((jobs : Jobs) × ((c : Content) × (AreJobsOf command left rest jobs × (Opens told jobs c × (h ≡ fresh (image c))))))

-- A job stopped before its first event: nothing was sent, the shelf holds what it held, and the status has its cause.
pub record JobStopped {S : Type 0} (F : Sight S) (command : Command) (left rest : Option (List ℕ)) (old new : S)
    (due : ℕ) (es : List Entry) (told : Told) (Says : List ℕ → Type 0) : Type 0 where
  -- why it stopped
  pub stop : Stop
  pub status : due ≡ code (status_of stop)
  pub cause : HasCause stop command (F.held old) left rest
  pub text : Says (stop_text stop)
  -- nothing was sent, and the shelf holds what it held
  pub idle : IsIdle es told
  pub same : F.held new ≡ F.held old
  -- the shelf was called to load it, and at most once more
  pub calls : AreFew F left rest old new
  -- what a crash meanwhile might have left
  pub leaves : CrashesLeave F old new (MayHaveLeft (F.may_leave old) command (F.held old) left rest)

-- ---- a job that ran

-- The text for one job, with this status: the report, or the summary line of a job that `gen` made.
abbrev pub one_text : Command → (due sent : ℕ) → Told → Script → List ℕ
one_text (Gen seed tasks files) due sent told w = summary tasks files due sent told.picks w
one_text _ due sent told w = report_text due sent told.picks told.ends w

-- The text for two jobs: the report of both.
abbrev pub both_text : (due sent : ℕ) → Told → twin_scripts.Twins → List ℕ
both_text due sent told t = twins_report due sent t.order (record { script = t.first; ends = told.ends; picks = told.picks })
    (record { script = t.second; ends = told.second_ends; picks = told.second_picks })

-- The text for the jobs that ran.
abbrev pub job_text : Command → (due sent : ℕ) → Told → Jobs → List ℕ
job_text command due sent told (One w) = one_text command due sent told w
job_text command due sent told (Two t) = both_text due sent told t

-- All events of the jobs ended, all changes are stored, and the status is the verdict of the jobs' commits.
pub record JobEnded {S : Type 0} (F : Sight S) (command : Command) (jobs : Jobs) (c : Content) (loaded new : S) (due : ℕ) (es : List Entry)
    (told : Told) (Says : List ℕ → Type 0) : Type 0 where
  -- the promise of a run that went to its end
  pub finished : AreFinished jobs c es told
  -- the shelf holds the opening image with every change of the run, and a crash leaves exactly that
  pub holds : Holds (F.held new) c (changes es)
  pub durable : IsDurable (F.held new) (F.may_leave new)
  -- the shelf was called to take the image, and once for each change
  pub calls : AreCalled F (changes es) loaded new
  -- the jobs' text was written, or memory ran out for it
  pub said : ((due ≡ verdict_of jobs told) × Says (job_text command due (length es) told jobs)) ⊎ ((due ≡ 9) × Says memory_text)

-- The run was cut short: an append failed, or memory ran out between two events.
pub record JobCut {S : Type 0} (F : Sight S) (jobs : Jobs) (c : Content) (loaded new : S) (due : ℕ) (es : List Entry) (told : Told)
    (Says : List ℕ → Type 0) : Type 0 where
  -- the shelf holds the first changes of the run, with those of all earlier events
  pub holds : HoldsPart (F.held new) c es
  -- the shelf was called for those first changes only, and the last call may have failed
  pub calls : AreStopped F (changes es) loaded new
  -- the status is the one for a failed shelf or for memory that ran out
  pub said : ((due ≡ 5) × Says shelf_text) ⊎ ((due ≡ 9) × Says memory_text)
  -- if memory ran out, an event has not ended, or the shelf lacks a change
  pub short : due ≡ 9 → HaveEventsLeft jobs told ⊎ LacksSince F c es loaded new

-- Jobs ran over a store with this content after the shelf was loaded, and what they sent keeps all that is promised of them.
pub record JobRan {S : Type 0} (F : Sight S) (command : Command) (jobs : Jobs) (c : Content) (loaded new : S)
    (due : ℕ) (es : List Entry) (told : Told) (Says : List ℕ → Type 0) : Type 0 where
  -- at every point readers see what they may rely on; each event, turn and operation is as the scripts say; each reply is the one that S3
  -- must give; each send has the fate that the script names (of two jobs, the first script); and nobody else sent anything
  pub promised : ArePromised jobs c es told
  -- at each point the store can be written as an image until its counter reaches its limit, so the next run can load it if it is small
  -- enough
  pub image : IsContent c
  pub images : KeepsImages c es
  pub ended : JobEnded F command jobs c loaded new due es told Says ⊎ JobCut F jobs c loaded new due es told Says

-- The headline, for one job that ran or for two: the scripts are the command's, they opened with the shelf's store, and the promise holds
-- of all that was sent.
pub record JobPlayed {S : Type 0} (F : Sight S) (command : Command) (left rest : Option (List ℕ)) (old new : S)
    (due : ℕ) (es : List Entry) (told : Told) (Says : List ℕ → Type 0) : Type 0 where
  -- the jobs that ran, and the store with which they opened
  pub jobs : Jobs
  pub opening : Content
  pub reads : AreJobsOf command left rest jobs
  pub opens : Opens (F.held old) jobs opening
  -- the shelf after it was loaded
  pub loaded : S
  pub load : F.answers Load old loaded
  pub ran : JobRan F command jobs opening loaded new due es told Says
  -- what the shelf stores of the run, and what crashes leave
  pub kept : IsKept due (F.held new) opening es
  pub survives : SurvivesCrashes due (F.held new) (F.may_leave old) (F.left_since new (F.moment old)) (F.may_leave new) opening es
