-- The lines of a text, and its first line.
use Rattle.std.specs.Prelude.{ℕ, ◌==◌, List, [], ◌∷◌, ◌++◌, if◌then◌else◌}
use Rattle.text_and_lists.specs.Lines.{unless_empty}

-- The lines of a text after `line`, the front of the first one. Each line feed ends a line. The bytes after the last one are a line unless
-- they are empty.
unfoldable pub lines_from : List ℕ → List ℕ → List (List ℕ)
lines_from line [] = unless_empty line
lines_from line (x ∷ xs) = if x == 10 then line ∷ lines_from [] xs else lines_from (line ++ x ∷ []) xs

-- The lines of a text, without their line feeds.
abbrev pub lines_of : List ℕ → List (List ℕ)
lines_of text = lines_from [] text

-- The bytes up to the first line feed, or all of them if there is none.
unfoldable pub first_line : List ℕ → List ℕ
first_line [] = []
first_line (x ∷ xs) = if x == 10 then [] else x ∷ first_line xs

-- The bytes after the first line feed, or none if there is none.
unfoldable pub behind_line : List ℕ → List ℕ
behind_line [] = []
behind_line (x ∷ xs) = if x == 10 then xs else behind_line xs
