-- The outcome of one job or two that are played over a shelf.
use Rattle.durable_job.specs.Jobs.{AreFinished, ArePromised, verdict_of}
use Rattle.durable_job.specs.Pace.{LacksSince}
use Rattle.durable_job.specs.declared.jobs.Jobs.{Jobs}
use Rattle.durable_job.specs.declared.jobs.Jobs.TheVariants.{One, Two}
use Rattle.durable_job.specs.declared.jobs.Told.{Told}
use Rattle.durable_job.specs.declared.playing.Kept.{Kept}
use Rattle.journal_log.specs.Appends.{AreCalled, AreStopped}
use Rattle.journal_log.specs.Changes.{changes}
use Rattle.journal_log.specs.Crashes.{WhereTold}
use Rattle.journal_log.specs.Kept.{Holds, HoldsPart, IsMoment}
use Rattle.journal_log.specs.Made.{KeepsImages}
use Rattle.s3_types.specs.Moment.{moment}
use Rattle.s3_types.specs.Store.{Content}
use Rattle.s3_types.specs.declared.journal.Entry.{Entry}
use Rattle.devices.specs.Logged.{CrashesLeave, IsDurable, Sight, fresh}
use Rattle.devices.specs.declared.kept.ShelfStop.{ShelfStop}
use Rattle.devices.specs.declared.kept.ShelfStop.TheVariants.{Failed, NoMemory}
use Rattle.std.specs.Prelude.{List, None, Option, Some, length, ℕ, ◌+◌, ◌<◌, ◌≡◌, ◌⊎◌}
use Rattle.store_image.specs.Image.{image}
use Rattle.twin_script.specs.TwinScripts.{sides_in}

-- ---- what the shelf holds of a run

-- What the shelf holds of a run: all changes if nothing stopped it, else the first ones with all changes of earlier events.
abbrev pub IsHeld : {S : Type 0} → Sight S → Content → List Entry → Option ShelfStop → S → S → Type 0
IsHeld F c es None old new = Holds (F.held new) c (changes es)
    × (IsDurable (F.held new) (F.may_leave new) × AreCalled F (changes es) old new)
IsHeld F c es (Some fault) old new = HoldsPart (F.held new) c es × AreStopped F (changes es) old new

-- What a crash during the run leaves: at first what a crash before it might leave or the opening image, and from some state on the store of
-- one moment of the run.
abbrev pub Survives : {S : Type 0} → Sight S → Content → List Entry → S → S → Type 0
Survives {S} F c es old new = (mid : S)
    × (CrashesLeave F old mid (λ h. F.may_leave old h ⊎ (h ≡ fresh (image c)))
    × CrashesLeave F mid new (λ h. WhereTold (F.held new) (IsMoment c es h)))

-- The count of faults rose if the shelf failed, and else stayed.
abbrev pub Counts : Option ShelfStop → ℕ → ℕ → Type 0
Counts (Some Failed) before after = before < after
Counts _ before after = after ≡ before

-- ---- what was played

-- Some event has no end yet: one of the script, or of two jobs one that the order asks for.
abbrev pub HaveEventsLeft : Jobs → Told → Type 0
HaveEventsLeft (One w) told = length told.ends < length w.events
HaveEventsLeft (Two t) told = length told.ends + length told.second_ends < length (sides_in t.order)

-- What holds of a run of these jobs over a store with this content, which was kept on a shelf that was in the old state before it.
pub record IsPlayed {S : Type 0} (F : Sight S) (jobs : Jobs) (c : Content) (kept : Kept) (old new : S) : Type 0 where
  -- The jobs are those that were given, and the store is as the requests have left it.
  pub jobs_are : kept.jobs ≡ jobs
  pub service : kept.service ≡ (moment c kept.journal.entries (length kept.journal.entries)).content
  -- All that is promised of what was sent.
  pub promised : ArePromised jobs c kept.journal.entries kept.told
  -- If nothing stopped the run, it went to its end.
  pub finished : kept.stop ≡ None → AreFinished jobs c kept.journal.entries kept.told
  pub verdict : kept.verdict ≡ verdict_of jobs kept.told
  -- If the run ran out of memory, an event has no end, or the shelf lacks a change.
  pub short : kept.stop ≡ Some NoMemory → HaveEventsLeft jobs kept.told ⊎ LacksSince F c kept.journal.entries old new
  -- What the shelf holds, and what a crash leaves.
  pub held : IsHeld F c kept.journal.entries kept.stop old new
  pub survives : Survives F c kept.journal.entries old new
  -- If the opening store can have an image, and the next upload id is at most 2^62 at the end, so can the store at each moment.
  pub images : KeepsImages c kept.journal.entries
