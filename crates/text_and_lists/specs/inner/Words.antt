-- Definitions beside those of `Words` that no public contract cites.
use Rattle.std.specs.List.{AllByRecursion, list_all}
use Rattle.std.specs.Prelude.{Bool, List, not, true, ℕ, [], ◌&&◌, ◌==◌, ◌∷◌, ◌≡◌}

-- True if the byte is no blank, LF or CR.
abbrev pub is_plain : ℕ → Bool
is_plain b = not (b == 32) && (not (b == 10) && not (b == 13))

-- A text of such bytes.
abbrev pub IsWord : List ℕ → Type 0
IsWord w = list_all is_plain w ≡ true

-- A line of one word or more.
abbrev pub IsLine : List (List ℕ) → Type 0
IsLine [] = ⊥
IsLine (w ∷ ws) = IsWord w × AllByRecursion IsWord ws
