-- What a disk of one file holds, how its calls change that, and what a crash between two syncs may do.
use Rattle.devices.specs.Logged.{most_file}
use Rattle.std.specs.Prelude.{List, None, Option, Some, drop, length, max, take, ℕ, ◌++◌, ◌+◌, ◌<◌, ◌≡◌, ◌≤◌, ◌⊎◌}

-- The bytes of the file, or None if there is no file.
abbrev pub File : Type 0
File = Option (List ℕ)

-- The length of the file in bytes.
abbrev pub file_length : File → ℕ
file_length None = 0
file_length (Some bytes) = length bytes

-- What was read is the file, if the disk shows it, and is not too large.
abbrev pub IsRead : Option File → File → Type 0
IsRead None read = file_length read ≤ most_file
IsRead (Some file) read = (file ≡ read) × (file_length file ≤ most_file)

-- The file is longer than a read takes.
abbrev pub IsTooLong : Option File → Type 0
IsTooLong None = Unit {0}
IsTooLong (Some file) = most_file < file_length file

-- These are now the bytes of the file, if the disk shows it.
abbrev pub ShowsNow : Option File → Option File → List ℕ → Type 0
ShowsNow None after bytes = after ≡ None
ShowsNow (Some file) after bytes = after ≡ Some (Some bytes)

-- There is a file, and the place is not past its end, if the disk shows it.
abbrev pub IsWithin : ℕ → Option File → Type 0
IsWithin at None = Unit {0}
IsWithin at (Some None) = ⊥
IsWithin at (Some (Some bytes)) = at ≤ length bytes

-- The old bytes with these bytes written over them at a place, perhaps past their end.
abbrev pub overwritten : ℕ → List ℕ → List ℕ → List ℕ
overwritten at bytes old = take at old ++ bytes ++ drop (at + length bytes) old

-- The file with these bytes written over it at a place.
abbrev pub file_after : ℕ → List ℕ → File → File
file_after at bytes None = None
file_after at bytes (Some old) = Some (overwritten at bytes old)

-- The file now has these bytes at the place, if the disk shows it.
abbrev pub Writes : ℕ → List ℕ → Option File → Option File → Type 0
Writes at bytes None after = after ≡ None
Writes at bytes (Some file) after = after ≡ Some (file_after at bytes file)

-- `new` may be left of `old` by a write of n bytes that a crash cuts short: any bytes in the range and past the old end, the same
-- elsewhere.
pub record Torn (at n : ℕ) (old new : List ℕ) : Type 0 where
  pub before : take at new ≡ take at old
  pub after : drop (at + n) new ≡ drop (at + n) old
  pub no_shorter : length old ≤ length new
  pub no_longer : length new ≤ max (length old) (at + n)

-- A crash during a write of n bytes may leave the file `new`.
abbrev pub IsTorn : ℕ → ℕ → File → File → Type 0
IsTorn at n None new = new ≡ None
IsTorn at n (Some old) None = ⊥
IsTorn at n (Some old) (Some new) = Torn at n old new

-- Each file that a crash may now leave comes by one step from a file that it could leave before.
abbrev pub Follows : (File → File → Type 0) → (File → Type 0) → (File → Type 0) → Type 0
Follows step old new = (c : File) → new c → (d : File) × old d × step d c

-- A crash leaves this file and no other.
abbrev pub Only : File → (File → Type 0) → Type 0
Only file leaves = (c : File) → leaves c → c ≡ file

-- A crash leaves this file and no other, if the disk shows it.
abbrev pub Settles : Option File → (File → Type 0) → Type 0
Settles None leaves = Unit {0}
Settles (Some file) leaves = Only file leaves

-- A folder's file as a disk: how many calls were made, and how many of them failed.
pub record Counts : Type 0 where
  pub calls : ℕ
  pub faults : ℕ

-- Time does not go back. A crash since t may have left what it could before, or what it may leave now.
pub record Elapses (before now : ℕ) (past since : ℕ → File → Type 0) (may_leave : File → Type 0) : Type 0 where
  pub later : before ≤ now
  pub nothing_else : (t : ℕ) (c : File) → t ≤ before → since t c → past t c ⊎ may_leave c
  pub keeps : (t : ℕ) (c : File) → t ≤ before → past t c → since t c
