-- How far an audit has come in its input.
use Rattle.line_input.specs.LinesOf.{lines_of}
use Rattle.std.specs.Prelude.{List, None, Option, Some, ℕ, ◌≡◌}

-- These are the lines of the input, if it tells its bytes; else they may be any lines.
abbrev pub AreLines : Option (List ℕ) → List (List ℕ) → Type 0
AreLines None lines = Unit {0}
AreLines (Some text) lines = lines ≡ lines_of text

-- The property holds for the lines of the input.
abbrev pub OfLines : Option (List ℕ) → (List (List ℕ) → Type 0) → Type 0
OfLines left P = (lines : List (List ℕ)) × AreLines left lines × P lines
