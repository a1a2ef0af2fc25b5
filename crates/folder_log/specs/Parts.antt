-- The disk of a shelf, and how the shelf's calls change its own counts and those of the disk.
use Rattle.folder_log.specs.declared.log_shelf.LogShelf.{LogShelf}
use Rattle.std.specs.Prelude.{None, ◌≡◌}

-- The disk of a shelf.
abbrev pub disk_of : {D : Type 0} {g : _} → LogShelf D g → D
disk_of s = s.disk

-- No call of the shelf was made yet, and it takes no appends.
abbrev pub IsUnused : {D : Type 0} {g : _} → LogShelf D g → Type 0
IsUnused s = (s.calls ≡ 0) × (s.gate ≡ None)
