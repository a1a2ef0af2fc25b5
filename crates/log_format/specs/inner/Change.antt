-- Definitions beside those of `Change` that no public contract cites.
use Rattle.std.specs.Prelude.{List, ℕ}

-- Any bytes.
abbrev pub IsAny : List ℕ → Type 0
IsAny bytes = Unit {0}
