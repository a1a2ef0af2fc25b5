-- Definitions beside those of `Directories` that no public contract cites.
use Rattle.soundness.specs.Claims.{directory}
use Rattle.std.specs.Prelude.{List, ℕ, [], ◌∷◌, ◌≡◌}

-- Each of these is its own parent directory, as a directory is: it ends in `/`, or is empty.
abbrev pub AreDirectories : List (List ℕ) → Type 0
AreDirectories [] = Unit {0}
AreDirectories (d ∷ dirs) = (directory d ≡ d) × AreDirectories dirs
