-- Definitions beside those of `Tables` that no public contract cites.
use Rattle.job_protocol.specs.Lanes.{Turn}
use Rattle.std.specs.Prelude.{List, ℕ, [], ◌∷◌}

-- How many sends of the completion in turn got no answer.
abbrev pub first_missed : List Turn → ℕ
first_missed [] = 0
first_missed (x ∷ xs) = x.missed
