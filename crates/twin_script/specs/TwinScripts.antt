-- Two scripts and the order of their turns.
use Rattle.job_model.specs.Codes.{coded_script}
use Rattle.job_model.specs.JobScript.{Script}
use Rattle.s3_types.specs.declared.request.Mode.{Mode}
use Rattle.s3_types.specs.declared.request.Mode.TheVariants.{Replace}
use Rattle.std.specs.Coded.{Coded, code_by, coded_list, coded_ℕ, coded×}
use Rattle.std.specs.List.{AllByRecursion}
use Rattle.std.specs.Prelude.{Bool, List, false, flat_map, if◌then◌else◌, length, refl, replicate, suc, sum_by, true, zero, ℕ, ◌≡◌, ◌≢◌}
use Rattle.std.specs.Prelude.{◌≤◌}
use Rattle.twin_script.specs.declared.turns.Side.{Side}
use Rattle.twin_script.specs.declared.turns.Side.TheVariants.{First, Second}
use Rattle.twin_script.specs.declared.turns.TwinTurn.{TwinTurn}
use Rattle.std.specs.FinMap as map

-- Two scripts, and the turns in which their events run.
pub record Twins : Type 0 where
  pub first : Script
  pub second : Script
  pub order : List TwinTurn

-- True if a job of this mode deletes files at its destination.
abbrev pub is_replace : Mode → Bool
is_replace Replace = true
is_replace _ = false

-- True if it is the first of the two jobs.
abbrev pub is_first : Side → Bool
is_first First = true
is_first Second = false

-- The number of events that a turn runs of the first script.
abbrev pub first_count : TwinTurn → ℕ
first_count turn = if is_first turn.side then turn.count else 0

-- The number of events that a turn runs of the second script.
abbrev pub second_count : TwinTurn → ℕ
second_count turn = if is_first turn.side then 0 else turn.count

-- Holds if the turn runs 1 to 100,000 events.
abbrev pub IsTurn : TwinTurn → Type 0
IsTurn turn = (1 ≤ turn.count) × (turn.count ≤ 100000)

-- Holds if the scripts may run at one destination, and their turns ask for no more events than there are.
pub record AreTwins (t : Twins) : Type 0 where
  pub ids : t.first.job ≢ t.second.job
  pub dest : t.first.dest ≡ t.second.dest
  pub first_keeps : is_replace t.first.mode ≡ false
  pub second_keeps : is_replace t.second.mode ≡ false
  pub lossless : t.second.fates ≡ map.empty
  pub turns : AllByRecursion IsTurn t.order
  pub first_events : sum_by first_count t.order ≤ length t.first.events
  pub second_events : sum_by second_count t.order ≤ length t.second.events

-- The sides of the events in the order of the turns.
abbrev pub sides_in : List TwinTurn → List Side
sides_in = flat_map (λ t. replicate t.count t.side)

-- The number of a side.
abbrev pub side_number : Side → ℕ
side_number First = 0
side_number Second = 1

-- The side with this number.
abbrev pub numbered_side : ℕ → Side
numbered_side zero = First
numbered_side (suc n) = Second

-- The side with the number of `s` is `s`.
abbrev pub side_again : (s : Side) → numbered_side (side_number s) ≡ s
side_again First = refl
side_again Second = refl

-- The code of a turn.
abbrev pub coded_turn : Coded TwinTurn
coded_turn = code_by (ℕ × ℕ) (coded× coded_ℕ coded_ℕ) (λ t. (side_number t.side, t.count))
    (λ p. record { side = numbered_side p.0; count = p.1 }) turn_again
  where
    turn_again : (t : TwinTurn) → record { side = numbered_side (side_number t.side); count = t.count } ≡ t
    turn_again t = λ i. record { side = side_again t.side i; count = t.count }

-- The code of two scripts and an order.
abbrev pub coded_twins : Coded Twins
coded_twins = code_by (Script × (Script × List TwinTurn)) (coded× coded_script (coded× coded_script (coded_list coded_turn)))
    (λ t. (t.first, (t.second, t.order))) (λ p. record { first = p.0; second = p.1.0; order = p.1.1 }) (λ _. refl)
