-- The parts of an input between two separator lines.
use Rattle.text_and_lists.specs.Lines.{without_return}
use Rattle.std.specs.Prelude.{Bool, List, None, Option, Some, bytes_eq, codes, if◌then◌else◌, is_some, option_and_then, ℕ, [], ◌++◌, ◌==◌}
use Rattle.std.specs.Prelude.{◌∷◌}

-- True for the line =====.
abbrev pub is_parting : List ℕ → Bool
is_parting line = bytes_eq line (codes "=====")

-- The bytes before the first separator line and those after it. `lines` and `line` are the bytes seen so far: whole lines, and the start of
-- a line. Each LF ends a line, without one CR before it.
unfoldable pub cut_from : List ℕ → List ℕ → List ℕ → Option (List ℕ × List ℕ)
cut_from lines line [] = if is_parting line then Some (lines, []) else None
cut_from lines line (x ∷ xs) =
    if x == 10 then (if is_parting (without_return line) then Some (lines, xs) else cut_from (lines ++ (line ++ 10 ∷ [])) [] xs)
    else cut_from lines (line ++ x ∷ []) xs

-- The bytes before the first separator line, and those after it.
abbrev pub cut : List ℕ → Option (List ℕ × List ℕ)
cut bytes = cut_from [] [] bytes

-- The first part with the two parts of the rest, unless the last one has a further separator line.
abbrev pub last_parts : List ℕ → List ℕ × List ℕ → Option (List ℕ × List ℕ × List ℕ)
last_parts first cuts = if is_some (cut cuts.1) then None else Some (first, cuts.0, cuts.1)

-- The three parts, or none if there are not exactly two separator lines.
abbrev pub three_parts : List ℕ → Option (List ℕ × List ℕ × List ℕ)
three_parts bytes = option_and_then (λ cuts. option_and_then (last_parts cuts.0) (cut cuts.1)) (cut bytes)
