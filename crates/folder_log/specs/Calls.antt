-- The effect of the calls of a disk in memory: what is on the disk, what a read gives, and the ranges that were written since the last
-- sync.
use Rattle.devices.specs.declared.calls.Calls.{Calls}
use Rattle.folder_log.specs.Disk.{File, IsTorn, file_after}
use Rattle.folder_log.specs.declared.state.Choice.{Choice}
use Rattle.folder_log.specs.declared.state.Choice.TheVariants.{Kept, Lost, Torn}
use Rattle.folder_log.specs.declared.state.DiskCall.{DiskCall}
use Rattle.folder_log.specs.declared.state.DiskCall.TheVariants.{Swap, Sync, Write}
use Rattle.folder_log.specs.declared.state.Span.{Span}
use Rattle.folder_log.specs.declared.state.State.{State}
use Rattle.std.specs.Prelude.{Bool, List, None, Some, cond, false, length, nat_le, replicate, take, ℕ, [], ◌++◌, ◌∷◌, ◌≡◌, ◌≤◌}

-- The state in which all of this file is on the disk.
abbrev pub at_rest : File → State
at_rest file = record { synced = file; now = file; ranges = [] }

-- True if there is a file and the place is not past its end.
abbrev pub is_within : ℕ → File → Bool
is_within at None = false
is_within at (Some bytes) = nat_le at (length bytes)

-- The state after these bytes were written at a place.
abbrev pub wrote : State → ℕ → List ℕ → State
wrote s place bytes = record {
  synced = s.synced;
  now = file_after place bytes s.now;
  ranges = s.ranges ++ record
      { place = place; length = length bytes } ∷ [];
}

-- The state after one call that succeeded.
abbrev pub after : State → DiskCall → State
after s (Swap bytes) = at_rest (Some bytes)
after s (Write place bytes) = cond (is_within place s.now) (wrote s place bytes) s
after s Sync = at_rest s.now

-- The state after these calls, if all succeeded.
abbrev pub after_all : State → List DiskCall → State
after_all s [] = s
after_all s (c ∷ cs) = after_all (after s c) cs

-- The state of a disk that was made with this file, after all these calls.
abbrev pub state_of : File → List DiskCall → State
state_of first calls = after_all (at_rest first) calls

-- The file c is left of the file `old` after one range after another was torn.
abbrev pub IsTornBy : List Span → File → File → Type 0
IsTornBy [] old c = c ≡ old
IsTornBy (r ∷ rs) old c = (d : File) × IsTorn r.place r.length old d × IsTornBy rs d c

-- A crash in this state may leave the file c.
abbrev pub IsImage : State → File → Type 0
IsImage s c = IsTornBy s.ranges s.synced c

-- A crash after one of the calls from the t-th on may have left the file c.
abbrev pub LeftSince : File → List DiskCall → ℕ → File → Type 0
LeftSince first calls t c = (k : ℕ) × (t ≤ k) × (k ≤ length calls) × IsImage (state_of first (take k calls)) c

-- The file with each of the ranges filled with this byte, one after another.
abbrev pub filled : ℕ → List Span → File → File
filled byte [] file = file
filled byte (r ∷ rs) file = filled byte rs (file_after r.place (replicate r.length byte) file)

-- The file that a crash leaves, for a choice of what becomes of the ranges that were not synced.
abbrev pub left_by : Choice → State → File
left_by Lost s = s.synced
left_by Kept s = s.now
left_by (Torn byte) s = filled byte s.ranges s.synced

-- A disk in memory: the file with which it was made, its calls that succeeded and may have changed what a crash leaves, and the counts of
-- all its calls.
pub record Recorded : Type 0 where
  pub first : File
  pub calls : List DiskCall
  pub turns : Calls

-- The state of a disk in memory, from its calls so far.
abbrev pub state_in : Recorded → State
state_in d = state_of d.first d.calls
