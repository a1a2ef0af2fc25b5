-- The answer for the outcome of a save, and which statuses of a text are not the shelf's.
use Rattle.durable_store.specs.Outcomes.{IsAnswer}
use Rattle.durable_store.specs.inner.Outcomes.{status_of, text_at}
use Rattle.durable_store.specs.Outcomes.IsAnswer.{failed, saved, wanting}
use Rattle.durable_store.specs.Works.{IsSaid, Saves}
use Rattle.exit_status.specs.Statuses.{code}
use Rattle.exit_status.specs.declared.statuses.Status.{Status}
use Rattle.exit_status.specs.declared.statuses.Status.TheVariants.{BadImage, Done, Refused}
use Rattle.s3_types.specs.Store.{Content}
use Rattle.s3_types.specs.declared.journal.Entry.{Entry}
use Rattle.devices.specs.declared.kept.ShelfStop.{ShelfStop}
use Rattle.devices.specs.declared.kept.ShelfStop.TheVariants.{Failed, NoMemory}
use Rattle.std.proofs.Common.{Err, List, Ok, Result, ℕ, ◌≢◌}

-- The answer for each outcome of a save.
pub saved_answer : {A : Type 0} (r : Result A ShelfStop) (c : Content) (text : List ℕ) (es : List Entry)
    → IsAnswer (Saves c text es) (status_of r) (text_at (status_of r) text) es
saved_answer (Ok x) c text es = saved c text es
saved_answer (Err Failed) c text es = failed c text es
saved_answer (Err NoMemory) c text es = wanting c text es

pub not_failed : (due : Status) → IsSaid due → code due ≢ 5
not_failed Done said = λ e. cc
not_failed Refused said = λ e. cc
not_failed BadImage said = λ e. cc
not_failed _ said = absurd said
