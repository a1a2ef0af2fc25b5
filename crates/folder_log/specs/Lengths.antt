-- The two lengths by which a load of a log file decides what is too large.
use Rattle.devices.specs.Logged.{HasBaseLength}
use Rattle.devices.specs.Logged.Holding.{Stands}
use Rattle.folder_log.specs.Disk.{File}
use Rattle.folder_log.specs.Kept.{as_holding, stored}
use Rattle.log_format.specs.Reading.{Read, base_length, block_at, changes_at, held_in, is_log, length_of, logged_in}
use Rattle.log_format.specs.declared.fault.LogFault.{LogFault}
use Rattle.log_format.specs.declared.logged_store.LoggedStore.{LoggedStore}
use Rattle.s3_types.specs.declared.request.Request.{Request}
use Rattle.std.proofs.Common.{ap, arith}
use Rattle.std.specs.Prelude.{Bool, Err, List, None, Ok, Option, Result, Some, drop, false, if◌then◌else◌, length, true, ℕ, [], ◌≡◌}
use Rattle.text_and_lists.specs.Reading.{◌>>=◌}

-- A value that the file holds was read.
read_is : (r : Result LoggedStore LogFault) (held : LoggedStore) → as_holding r ≡ Stands held → r ≡ Ok held
read_is r held is = grind arith

abbrev base_in : Result LoggedStore LogFault → ℕ
base_in (Ok held) = length held.base
base_in (Err fault) = 0

-- The base of a log has the length that was read.
logged_length : (whole : ℕ) (r : Read (List ℕ)) (held : LoggedStore)
    → (r >>= λ base. changes_at (length base.1) whole base.1 >>= λ changes. Ok (record { base = base.0; changes = changes })) ≡ Ok held
    → length_of r ≡ length held.base
logged_length whole (Err fault) held is = cc
logged_length whole (Ok base) held is = by (changes_at (length base.1) whole base.1) is
  where
    by : (cs : Result (List Request) LogFault) → (cs >>= λ changes. Ok (record { base = base.0; changes = changes })) ≡ Ok held
        → length base.0 ≡ length held.base
    by (Err fault) is = cc
    by (Ok changes) is = ap base_in is

read_length : (bytes : List ℕ) (held : LoggedStore) → held_in bytes ≡ Ok held → base_length bytes ≡ length held.base
unfolding held_in base_length logged_in
read_length bytes held is = by (is_log bytes) is
  where
    by : (b : Bool) → (if b then logged_in (length bytes) (drop 8 bytes) else Ok (record { base = bytes; changes = [] })) ≡ Ok held
        → (if b then length_of (block_at 8 (drop 8 bytes)) else length bytes) ≡ length held.base
    by true is = logged_length (length bytes) (block_at 8 (drop 8 bytes)) held is
    by false is = ap base_in is

pub has_base_length : (seen : Option File) → HasBaseLength (stored seen)
has_base_length None = tt
has_base_length (Some None) = λ held is. cc
has_base_length (Some (Some bytes)) = λ held is. read_length bytes held (read_is (held_in bytes) held is)
