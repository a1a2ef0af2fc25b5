-- The parts of a text between separators.
use Rattle.std.specs.Prelude.{ℕ, ◌==◌, not, List, [], ◌∷◌, ◌++◌, Bool, Option, Some, None, if◌then◌else◌}

-- The parts of a text after `part`, the front of the first one. There is always at least one, perhaps empty.
unfoldable pub parts_from : ℕ → List ℕ → List ℕ → List (List ℕ)
parts_from separator part [] = part ∷ []
parts_from separator part (x ∷ xs) = if x == separator then part ∷ parts_from separator [] xs else parts_from separator (part ++ x ∷ []) xs

-- The parts of a text between its separators.
abbrev pub parts_of : ℕ → List ℕ → List (List ℕ)
parts_of separator text = parts_from separator [] text

-- The parts of the text after a separator, or none if there was no separator.
abbrev pub parts_after : ℕ → Option (List ℕ) → List (List ℕ)
parts_after separator None = []
parts_after separator (Some rest) = parts_of separator rest

-- True if the byte is not the separator.
abbrev pub is_other : ℕ → ℕ → Bool
is_other separator b = not (b == separator)
