-- The side of each event in a run of two jobs.
use Rattle.std.specs.Prelude.{Bool, List, cond, false, true, ℕ, [], ◌+◌, ◌∷◌}
use Rattle.twin_script.specs.declared.turns.Side.{Side}
use Rattle.twin_script.specs.declared.turns.Side.TheVariants.{First, Second}

-- The two sides are the same.
abbrev pub is_same : Side → Side → Bool
is_same First First = true
is_same Second Second = true
is_same First Second = false
is_same Second First = false

-- The other one of the two sides.
abbrev pub other_of : Side → Side
other_of First = Second
other_of Second = First

-- The numbers, from n on, of the events that are not this side's.
abbrev pub others_in : Side → ℕ → List Side → List ℕ
others_in side n [] = []
others_in side n (s ∷ sides) = cond (is_same side s) (others_in side (n + 1) sides) (n ∷ others_in side (n + 1) sides)
