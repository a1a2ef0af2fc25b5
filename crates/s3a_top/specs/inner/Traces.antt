-- Definitions beside those of `Traces` that no public contract cites.
use Rattle.devices.specs.Logged.{Sight}
use Rattle.durable_job.specs.Jobs.{nothing_told}
use Rattle.durable_job.specs.declared.jobs.Told.{Told}
use Rattle.durable_store.specs.Outcomes.{Tells}
use Rattle.durable_store.specs.Works.{Says}
use Rattle.s3_types.specs.declared.journal.Entry.{Entry}
use Rattle.s3a_shell.specs.Commanded.{plays}
use Rattle.s3a_top.specs.Commands.{NoCommand, StoreStopped}
use Rattle.s3a_top.specs.Jobs.{JobStopped}
use Rattle.s3a_top.specs.Statuses.{IsDue}
use Rattle.s3a_top.specs.Traces.{IsLoaded, JobTraced, StoreTraced}
use Rattle.s3a_words.specs.declared.command.Command.{Command}
use Rattle.std.specs.Prelude.{List, None, Option, Some, false, true, ℕ, ◌≡◌, ◌⊎◌}

-- The status before writing is one of the program's and fits the counts of faults of the input (`i`, `j`) and of the shelf (`m`, `n`). What
-- was traced, or stopped, is as the headline has it.
pub record Shows {S : Type 0} (F : Sight S) (named : Option Command) (left rest : Option (List ℕ)) (old new : S) (i j m n status : ℕ)
    (es : List Entry) (told : Told) (Says : List ℕ → Type 0) : Type 0 where
  pub due : IsDue status
  pub read : Tells 3 status i j
  pub shelf : Tells 5 status m n
  pub job : (c : Command) → named ≡ Some c → plays c ≡ true
      → JobTraced F c left rest old new status es told Says ⊎ JobStopped F c left rest old new status es told Says
  pub store : (c : Command) → named ≡ Some c → plays c ≡ false
      → StoreTraced F c left rest old new status es Says ⊎ StoreStopped F c left rest old new status es Says
  pub quiet : (c : Command) → named ≡ Some c → plays c ≡ false → told ≡ nothing_told
  pub loaded : IsLoaded F old new
  pub usage : named ≡ None → NoCommand status old new es told Says
  pub command : status ≡ 2 → named ≡ None
