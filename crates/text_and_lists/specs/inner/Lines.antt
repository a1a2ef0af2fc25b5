-- Definitions beside those of `Lines` that no public contract cites.
use Rattle.std.specs.Prelude.{Bool, not, ℕ, ◌==◌}

-- True if the byte is no LF.
abbrev pub is_inside : ℕ → Bool
is_inside b = not (b == 10)
