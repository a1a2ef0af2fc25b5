-- Definitions beside those of `Order` that no public contract cites.
use Rattle.std.specs.Prelude.{List, cond, ℕ, [], ◌+◌, ◌∷◌}
use Rattle.twin_jobs.specs.Order.{is_same}
use Rattle.twin_script.specs.declared.turns.Side.{Side}

-- The number of events that are this side's.
abbrev pub events_of : Side → List Side → ℕ
events_of side [] = 0
events_of side (s ∷ sides) = cond (is_same side s) (events_of side sides + 1) (events_of side sides)
