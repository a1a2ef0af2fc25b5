-- Definitions beside those of `Outcomes` that no public contract cites.
use Rattle.devices.specs.declared.kept.ShelfStop.{ShelfStop}
use Rattle.exit_status.specs.declared.statuses.Status.{Status}
use Rattle.exit_status.specs.declared.statuses.Status.TheVariants.{Done, NoMemory, ShelfFault}
use Rattle.std.specs.Prelude.{Err, List, None, Ok, Option, Result, Some, ℕ}
use Rattle.devices.specs.declared.kept.ShelfStop.TheVariants as stops

-- The status for the result of a save.
abbrev pub status_of : {A : Type 0} → Result A ShelfStop → Status
status_of (Ok x) = Done
status_of (Err stops.Failed) = ShelfFault
status_of (Err stops.NoMemory) = NoMemory

-- The text, if the work was done.
abbrev pub text_at : Status → List ℕ → Option (List ℕ)
text_at Done text = Some text
text_at _ text = None
