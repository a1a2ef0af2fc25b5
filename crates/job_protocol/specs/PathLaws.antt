-- The paths of files as places of the layout (`magic_paths`).
use Rattle.job_model.specs.Legal.{IsGiven}
use Rattle.job_model.specs.Plans.{IsPlaced}
use Rattle.magic_paths.specs.Places.{is_open, is_record}
use Rattle.std.specs.Prelude.{List, false, true, ℕ, ◌≡◌}

-- The paths of a script's files keep the bounds of places.
pub record ArePlaces : Type 0 where
  -- A path that a script may give is open, and not the path of a record.
  pub given : (path : List ℕ) → IsGiven path → (is_open path ≡ true) × (is_record path ≡ false)
  -- A path that may be made unique to the job is open.
  pub placed : (id path : List ℕ) → IsPlaced id path → is_open path ≡ true
