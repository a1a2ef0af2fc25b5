-- The words of a line, and the text of lines of words.
use Rattle.std.specs.List.{flat_map, list_all}
use Rattle.std.specs.Prelude.{Bool, List, Option, not, true, ℕ, [], ◌&&◌, ◌++◌, ◌==◌, ◌∷◌, ◌≡◌}
use Rattle.text_and_lists.specs.Parts.{parts_after, parts_of}

-- The words of a text: the parts between single blanks.
abbrev pub words_of : List ℕ → List (List ℕ)
words_of text = parts_of 32 text

-- The words after a blank, or none if the line has ended.
abbrev pub words_after : Option (List ℕ) → List (List ℕ)
words_after rest = parts_after 32 rest

-- The text of words, with one blank between two.
abbrev pub joined : List (List ℕ) → List ℕ
joined [] = []
joined (w ∷ []) = w
joined (w ∷ v ∷ ws) = w ++ 32 ∷ joined (v ∷ ws)

-- The line of these words, with its LF.
abbrev pub ended : List (List ℕ) → List ℕ
ended ws = joined ws ++ 10 ∷ []

-- The text of these lines of words.
abbrev pub text_of : List (List (List ℕ)) → List ℕ
text_of ls = flat_map ended ls

-- True if the byte is no blank and no LF.
abbrev pub is_bare : ℕ → Bool
is_bare b = not (b == 32) && not (b == 10)

-- A text of such bytes.
abbrev pub IsBare : List ℕ → Type 0
IsBare w = list_all is_bare w ≡ true
