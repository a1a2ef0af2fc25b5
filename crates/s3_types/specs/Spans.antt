-- Ranges of sends with the same fate. Each is kept by the number of its last send.
use Rattle.s3_types.specs.Fates.{FateMap, with_fates}
use Rattle.s3_types.specs.declared.fates.Span.{Span}
use Rattle.std.specs.Prelude.{List, ℕ, [], ◌+◌, ◌-◌, ◌∷◌}
use Rattle.std.specs.FinMap as map

-- The map of fates that these ranges give.
abbrev pub named : List (ℕ × Span) → FateMap
named [] = map.empty
named (e ∷ es) = with_fates (named es) e.1.first e.1.fate (e.0 + 1 - e.1.first)
