-- Definitions beside those of `Calls` that no public contract cites.
use Rattle.folder_log.specs.Calls.{Recorded, at_rest}
use Rattle.folder_log.specs.Disk.{File}
use Rattle.folder_log.specs.declared.state.DiskCall.{DiskCall}
use Rattle.folder_log.specs.declared.state.State.{State}
use Rattle.std.specs.Prelude.{None, Option, Some, [], ◌++◌, ◌∷◌}

-- A disk in memory after one call more.
abbrev pub recorded : Recorded → DiskCall → Recorded
recorded d call = record { first = d.first; calls = d.calls ++ call ∷ []; turns = d.turns }

-- The state that was set last, or the first file with all of it on the disk.
abbrev pub last_of : Option State → File → State
last_of None first = at_rest first
last_of (Some s) first = s
