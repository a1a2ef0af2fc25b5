-- Lists with a given number of words.
use Rattle.std.specs.Prelude.{ℕ, List, [], ◌∷◌, Option, Some, None}
use Rattle.text_and_lists.specs.Words.{joined}

-- The word of a list with exactly one, or None.
abbrev pub one : List (List ℕ) → Option (List ℕ)
one (w ∷ []) = Some w
one _ = None

-- The words of a list with exactly two, or None.
abbrev pub two : List (List ℕ) → Option (List ℕ × List ℕ)
two (w ∷ v ∷ []) = Some (w, v)
two _ = None

-- The first two words, and those after them.
abbrev pub two_and_more : List (List ℕ) → Option (List ℕ × List ℕ × List (List ℕ))
two_and_more (w ∷ v ∷ vs) = Some (w, v, vs)
two_and_more _ = None

-- The only word, or Some None if the list is empty.
abbrev pub at_most_one : List (List ℕ) → Option (Option (List ℕ))
at_most_one [] = Some None
at_most_one (w ∷ []) = Some (Some w)
at_most_one (w ∷ v ∷ vs) = None

-- The text of the words, with one blank between two; None for no words.
abbrev pub text : List (List ℕ) → Option (List ℕ)
text [] = None
text (w ∷ ws) = Some (joined (w ∷ ws))
