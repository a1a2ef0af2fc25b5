-- The lines of a text.
use Rattle.std.specs.Prelude.{List, if◌then◌else◌, length, nat_lt, slice_index, take, ℕ, [], ◌&&◌, ◌++◌, ◌-◌, ◌==◌, ◌∷◌}

-- The line without one CR at its end.
abbrev pub without_return : List ℕ → List ℕ
without_return line = if nat_lt 0 (length line) && (slice_index line (length line - 1) == 13) then take (length line - 1) line else line

-- The bytes after the last LF are a line unless they are empty.
abbrev pub unless_empty : List ℕ → List (List ℕ)
unless_empty [] = []
unless_empty (x ∷ xs) = (x ∷ xs) ∷ []

-- The lines of a text after `line`, the front of the first one. Each LF ends a line, and one CR before it is dropped.
unfoldable pub lines_from : List ℕ → List ℕ → List (List ℕ)
lines_from line [] = unless_empty line
lines_from line (x ∷ xs) = if x == 10 then without_return line ∷ lines_from [] xs else lines_from (line ++ x ∷ []) xs

-- The lines of a text.
abbrev pub lines_of : List ℕ → List (List ℕ)
lines_of bytes = lines_from [] bytes
