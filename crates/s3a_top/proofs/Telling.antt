-- Which counts of faults rise, and which causes stops have.
use Rattle.durable_job.specs.Played.{Counts}
use Rattle.durable_job.specs.declared.jobs.Jobs.{Jobs}
use Rattle.durable_job.specs.declared.jobs.Jobs.TheVariants.{One, Two}
use Rattle.durable_store.specs.Outcomes.{Tells}
use Rattle.durable_store.specs.declared.shelf_state.ShelfState.{ShelfState}
use Rattle.exit_status.specs.Statuses.{code}
use Rattle.exit_status.specs.declared.statuses.Status.{Status}
use Rattle.journal_log.specs.Images.{Counts as CountsLoad}
use Rattle.s3a_shell.specs.Commanded.{takes_input}
use Rattle.s3a_top.proofs.Readings.{script_part, twins_part}
use Rattle.s3a_top.specs.Commands.{may_read}
use Rattle.s3a_top.specs.Jobs.{HasCause}
use Rattle.s3a_top.specs.Openings.{AreJobsOf, IsSoundly}
use Rattle.s3a_top.specs.inner.Openings.{TakesIfRead}
use Rattle.s3a_top.specs.inner.Plays.{IsOfStop, IsVerdict}
use Rattle.s3a_top.specs.inner.Reads.{CountsReads, IsReadStop}
use Rattle.s3a_top.specs.Statuses.{IsDue}
use Rattle.s3a_top.specs.inner.Statuses.{IsWorked}
use Rattle.s3a_top.specs.Stops.{status_of}
use Rattle.s3a_top.specs.inner.Stops.{of_shelf}
use Rattle.s3a_top.specs.inner.Workings.{Counted, HasReasonIn}
use Rattle.s3a_top.specs.declared.stop.Stop.{Stop}
use Rattle.s3a_top.specs.declared.stop.Stop.TheVariants.{NoMemory, ReadFault, Script as BadScript, Twins as BadTwins}
use Rattle.s3a_top.specs.declared.work.Work.{Work}
use Rattle.s3a_words.specs.declared.command.Command.{Command}
use Rattle.s3a_words.specs.declared.command.Command.TheVariants.{Gen, Job, Twins}
use Rattle.devices.specs.Logged.{Stored}
use Rattle.devices.specs.declared.kept.ShelfStop.{ShelfStop}
use Rattle.std.proofs.Common.{Err, List, None, Ok, Option, Some, false, inl, inr, refl, subst, sym, ℕ, ⊎_elim, ◌<◌, ◌∙◌, ◌≡◌, ◌≢◌}
use Rattle.devices.specs.declared.kept.ShelfStop.TheVariants as shelves
use Rattle.exit_status.specs.declared.statuses.Status.TheVariants as statuses

-- ---- counts of faults

-- The status is another one, and the count is unchanged.
pub tells_none : (status due before after : ℕ) → due ≢ status → after ≡ before → Tells status due before after
tells_none status due before after other same = record { rose = λ e. absurd (other e); stands = λ n. same }

-- The status is this one, and the count rose.
pub tells_one : (status before after : ℕ) → before < after → Tells status status before after
tells_one status before after rose = record { rose = λ e. rose; stands = λ n. absurd (n refl) }

-- Work that was done does not have the status of a failed input.
pub worked_read : (s : Status) → IsWorked s → code s ≢ 3
worked_read statuses.Done h = λ e. cc
worked_read statuses.Refused h = λ e. cc
worked_read statuses.ShelfFault h = λ e. cc
worked_read statuses.BadImage h = λ e. cc
worked_read statuses.StoreFault h = λ e. cc
worked_read statuses.NoMemory h = λ e. cc
worked_read _ h = absurd h

-- Nor that of words that are no command.
pub worked_usage : (s : Status) → IsWorked s → code s ≢ 2
worked_usage statuses.Done h = λ e. cc
worked_usage statuses.Refused h = λ e. cc
worked_usage statuses.ShelfFault h = λ e. cc
worked_usage statuses.BadImage h = λ e. cc
worked_usage statuses.StoreFault h = λ e. cc
worked_usage statuses.NoMemory h = λ e. cc
worked_usage _ h = absurd h

-- Nor that of a failed output.
pub worked_due : (s : Status) → IsWorked s → IsDue (code s)
worked_due statuses.WriteFault h = absurd h
worked_due s h = (s, (λ e. cc, refl))

pub due_written : (due : ℕ) → IsDue due → due ≢ 4
due_written due h e = by h.0 h.1.0 (sym h.1.1 ∙ e)
  where
    by : (s : Status) → s ≢ statuses.WriteFault → code s ≡ 4 → ⊥
    by statuses.WriteFault n k = n refl
    by _ n k = cc

verdict_counts : (s : Status) (before after : ℕ) → IsVerdict s → after ≡ before → Tells 5 (code s) before after
verdict_counts statuses.Done before after h same = tells_none 5 0 before after (λ e. cc) same
verdict_counts statuses.Refused before after h same = tells_none 5 1 before after (λ e. cc) same
verdict_counts statuses.StoreFault before after h same = tells_none 5 8 before after (λ e. cc) same
verdict_counts statuses.NoMemory before after h same = tells_none 5 9 before after (λ e. cc) same
verdict_counts _ before after h same = absurd h

-- A job that ran.
pub played_counts : (stop : Option ShelfStop) (due : Status) (before after : ℕ) → IsOfStop stop due → Counts stop before after
    → Tells 5 (code due) before after
played_counts None due before after h counts = verdict_counts due before after h counts
played_counts (Some shelves.Failed) due before after h counts = subst (λ (s : Status). Tells 5 (code s) before after) (sym h)
    (tells_one 5 before after counts)
played_counts (Some shelves.NoMemory) due before after h counts = subst (λ (s : Status). Tells 5 (code s) before after) (sym h)
    (tells_none 5 9 before after (λ e. cc) counts)

pub verdict_worked : (s : Status) → IsVerdict s → IsWorked s
verdict_worked statuses.Done h = tt
verdict_worked statuses.Refused h = tt
verdict_worked statuses.StoreFault h = tt
verdict_worked statuses.NoMemory h = tt
verdict_worked _ h = absurd h

pub stop_worked : (stop : Option ShelfStop) (due : Status) → IsOfStop stop due → IsWorked due
stop_worked None due h = verdict_worked due h
stop_worked (Some shelves.Failed) due h = subst IsWorked (sym h) tt
stop_worked (Some shelves.NoMemory) due h = subst IsWorked (sym h) tt

-- ---- causes

-- What was taken from the input was the command's jobs.
pub jobs_taken : (command : Command) (left rest : Option (List ℕ)) (jobs : Jobs) → AreJobsOf command left rest jobs
    → TakesIfRead command left rest
jobs_taken Job left rest (One w) h = inr (refl, script_part left rest w h)
jobs_taken Twins left rest (Two t) h = inr (refl, twins_part left rest t h)
jobs_taken (Gen seed tasks files) left rest (One w) h = inl h.1
jobs_taken _ left rest jobs h = absurd h

-- A command that may not read the input has none.
pub reads_less : (command : Command) → may_read (Some command) ≡ false → takes_input command ≡ false
reads_less Job e = refl
reads_less Twins e = refl
reads_less _ e = e

module _ (command : Command) (told : Option Stored) (left rest : Option (List ℕ)) (sound : IsSoundly told) where
  pub wanting_cause : TakesIfRead command left rest → HasCause NoMemory command told left rest
  wanting_cause takes = ⊎_elim (λ e. inl e) (λ j. inr (sound, j)) takes

  pub read_cause : (stop : Stop) → IsReadStop stop command left rest → HasCause stop command told left rest
  read_cause ReadFault h = (sound, h)
  read_cause (BadScript e) h = (sound, h)
  read_cause (BadTwins e) h = (sound, h)
  read_cause NoMemory h = wanting_cause h
  read_cause _ h = absurd h

  pub shelf_cause : (stop : ShelfStop) (jobs : Jobs) → AreJobsOf command left rest jobs → HasCause (of_shelf stop) command told left rest
  shelf_cause shelves.Failed jobs reads = inr (jobs, reads)
  shelf_cause shelves.NoMemory jobs reads = wanting_cause (jobs_taken command left rest jobs reads)

-- ---- both counts

pub counted_done : (work : Work) (left rest before after : ℕ) → IsWorked work.answer.due → rest ≡ left
    → Tells 5 (code work.answer.due) before after → Counted (Ok work) left rest before after
counted_done work left rest before after own same shelf = record {
  own = own;
  read = tells_none 3 (code work.answer.due) left rest
      (worked_read work.answer.due own) same;
  shelf = shelf;
}

-- Neither the input nor the shelf failed.
pub counted_none : (stop : Stop) (left rest before after : ℕ) → code (status_of stop) ≢ 3 → code (status_of stop) ≢ 5 → rest ≡ left
    → after ≡ before → Counted (Err stop) left rest before after
counted_none stop left rest before after three five same still = record {
  own = tt;
  read = tells_none 3 (code (status_of stop)) left rest
      three same;
  shelf = tells_none 5 (code (status_of stop)) before after five still;
}

pub counted_shelf : (stop : ShelfStop) (left rest before after : ℕ) → rest ≡ left → Counts (Some stop) before after
    → Counted (Err (of_shelf stop)) left rest before after
counted_shelf shelves.Failed left rest before after same counts = record {
  own = tt;
  read = tells_none 3 5 left rest (λ e. cc) same;
  shelf =
      tells_one 5 before after counts;
}
counted_shelf shelves.NoMemory left rest before after same counts = counted_none NoMemory left rest before after (λ e. cc) (λ e. cc) same
    counts

pub load_counts : (A : Type 0) (stop : ShelfStop) (before after : ℕ) → CountsLoad {A = A} (Err stop) before after
    → Counts (Some stop) before after
load_counts A shelves.Failed before after counts = counts
load_counts A shelves.NoMemory before after counts = counts

-- The jobs could not be read.
pub counted_read : (A : Type 0) (stop : Stop) (command : Command) (left rest : Option (List ℕ)) (before after count : ℕ)
    → IsReadStop stop command left rest → CountsReads {A = A} (Err stop) before after → Counted (Err stop) before after count count
counted_read A ReadFault command left rest before after count h counts = record
    { own = tt; read = tells_one 3 before after counts; shelf = tells_none 5 3 count count (λ e. cc) refl }
counted_read A (BadScript e) command left rest before after count h counts = counted_none (BadScript e) before after count count (λ z. cc)
    (λ z. cc) counts refl
counted_read A (BadTwins e) command left rest before after count h counts = counted_none (BadTwins e) before after count count (λ z. cc)
    (λ z. cc) counts refl
counted_read A NoMemory command left rest before after count h counts = counted_none NoMemory before after count count (λ z. cc) (λ z. cc)
    counts refl
counted_read A _ command left rest before after count h counts = absurd h

-- The bytes of a command's input could not be read.
pub counted_bytes : (A : Type 0) (stop : Stop) (command : Command) (held : ShelfState) (left rest : Option (List ℕ))
    (before after count : ℕ)
    → HasReasonIn stop command held left rest → CountsReads {A = A} (Err stop) before after → Counted (Err stop) before after count count
counted_bytes A ReadFault command held left rest before after count h counts = record
    { own = tt; read = tells_one 3 before after counts; shelf = tells_none 5 3 count count (λ e. cc) refl }
counted_bytes A NoMemory command held left rest before after count h counts = counted_none NoMemory before after count count (λ z. cc)
    (λ z. cc) counts refl
counted_bytes A _ command held left rest before after count h counts = absurd h
