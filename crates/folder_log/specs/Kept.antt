-- What a log file holds, and its form between two changes.
use Rattle.devices.specs.Logged.{Holding, Stored}
use Rattle.devices.specs.Logged.Holding.{BadAt, Nothing, Stands}
use Rattle.folder_log.specs.Disk.{File, Only}
use Rattle.log_format.specs.Change.{IsChange}
use Rattle.log_format.specs.Log.{headed, log, opened}
use Rattle.log_format.specs.Reading.{base_length, held_in}
use Rattle.log_format.specs.declared.fault.LogFault.{LogFault}
use Rattle.log_format.specs.declared.fault.LogFault.TheVariants.{Bad, NoMemory}
use Rattle.log_format.specs.declared.logged_store.LoggedStore.{LoggedStore}
use Rattle.s3_types.specs.declared.request.Request.{Request}
use Rattle.std.specs.List.{AllByRecursion}
use Rattle.std.specs.Option.{option_map}
use Rattle.std.specs.Prelude.{Err, List, None, Ok, Option, Result, Some, length, ℕ, ◌++◌, ◌+◌, ◌<◌, ◌^◌, ◌≡◌}

-- What a file holds, from the result of reading it.
abbrev pub as_holding : Result LoggedStore LogFault → Holding
as_holding (Ok held) = Stands held
as_holding (Err (Bad place)) = BadAt place
as_holding (Err NoMemory) = Nothing

-- What a file holds, with its two lengths.
abbrev pub stored_of : File → Stored
stored_of None = record { holding = Nothing; base_length = 0; file_length = 0 }
stored_of (Some bytes) = record { holding = as_holding (held_in bytes); base_length = base_length bytes; file_length = length bytes }

-- What a log file holds, with its two lengths, if the disk shows it.
abbrev pub stored : Option File → Option Stored
stored seen = option_map stored_of seen

-- The file is a log whose closed gate after the changes is at this place.
pub record IsAtRest (gate : ℕ) (bytes : List ℕ) : Type 0 where
  pub base : List ℕ
  pub changes : List Request
  pub spelled : bytes ≡ log base changes
  pub at : length (headed base ++ opened changes) ≡ gate
  pub legal : AllByRecursion IsChange changes
  pub fits : length bytes < 2 ^ 64

-- The file is such a log, and a crash leaves it and no other, if the disk shows it.
abbrev pub IsSettled : Option File → (File → Type 0) → ℕ → Type 0
IsSettled None leaves gate = Unit {0}
IsSettled (Some None) leaves gate = ⊥
IsSettled (Some (Some bytes)) leaves gate = IsAtRest gate bytes × Only (Some bytes) leaves

-- The shelf takes appends: it keeps the place of a gate, and the file is a log that is settled at that gate.
abbrev pub TakesAppends : Option File → (File → Type 0) → Option ℕ → Type 0
TakesAppends seen leaves None = ⊥
TakesAppends seen leaves (Some gate) = IsSettled seen leaves gate
