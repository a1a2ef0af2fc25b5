-- Definitions beside those of `Reading` that no public contract cites.
use Rattle.std.specs.Prelude.{List, None, Option, Some, ℕ, [], ◌≡◌}

-- Nothing is left of the source, if it shows what is left.
abbrev pub IsOver : Option (List ℕ) → Type 0
IsOver None = Unit {0}
IsOver (Some left) = left ≡ []
