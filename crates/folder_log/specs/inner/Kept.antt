-- Definitions beside those of `Kept` that no public contract cites.
use Rattle.devices.specs.Logged.{Holding}
use Rattle.devices.specs.Logged.Holding.{Nothing}
use Rattle.folder_log.specs.Disk.{File, Only}
use Rattle.folder_log.specs.Kept.{as_holding}
use Rattle.log_format.specs.Change.{IsChange}
use Rattle.log_format.specs.Log.{record_of}
use Rattle.log_format.specs.Reading.{held_in}
use Rattle.s3_types.specs.declared.request.Request.{Request}
use Rattle.std.specs.Prelude.{List, None, Option, Some, length, ℕ, [], ◌++◌, ◌+◌, ◌^◌, ◌∷◌, ◌≡◌, ◌≤◌, ◌⊎◌}

-- What a file holds.
abbrev pub holding_of : File → Holding
holding_of None = Nothing
holding_of (Some bytes) = as_holding (held_in bytes)

-- A crash may leave a file that holds h.
abbrev pub Leaves : (File → Type 0) → Holding → Type 0
Leaves leaves h = (file : File) × leaves file × (h ≡ holding_of file)

-- If the shelf keeps a gate, a crash leaves only the file that a read gives, if the disk shows it.
abbrev pub IsSure : Option File → (File → Type 0) → Option ℕ → Type 0
IsSure seen leaves gate = (place : ℕ) (file c : File) → gate ≡ Some place → seen ≡ Some file → leaves c → c ≡ file

-- The disk has only `front` and a closed gate after it, and a crash leaves only that.
pub record IsClosed (front : List ℕ) (gate : ℕ) (seen : Option File) (leaves : File → Type 0) : Type 0 where
  pub at : length front ≡ gate
  pub file : seen ≡ Some (Some (front ++ 0 ∷ []))
  pub durable : Only (Some (front ++ 0 ∷ [])) leaves

-- The file has `front`, and after it either a closed gate and at most as many bytes as the record, or any gate and the whole record.
abbrev pub IsLeftOf : List ℕ → List ℕ → File → Type 0
IsLeftOf front written c = ((rest : List ℕ) × (length rest ≤ length written) × (c ≡ Some (front ++ 0 ∷ rest)))
    ⊎ ((g : ℕ) × (c ≡ Some (front ++ g ∷ written)))

-- A change, written for its place after a closed gate, and the place of the closed gate after it.
pub record IsPrepared (gate : ℕ) (change : Request) (written : List ℕ) (end : ℕ) : Type 0 where
  pub text : written ≡ record_of change ++ 0 ∷ []
  pub legal : IsChange change
  pub end_is : end ≡ gate + length written
  pub within : end ≤ 2 ^ 63
