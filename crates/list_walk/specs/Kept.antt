-- How the code keeps a sweep.
use Rattle.list_walk.specs.Walks.{Deleting, Listing, Sweep}
use Rattle.std.specs.Prelude.{Bool, List, None, Option, Some, drop, false, true, ℕ, [], ◌∷◌}

-- A sweep, as the code keeps it.
abbrev pub Swept : Type 0
Swept = Sweep

-- The sweep that deletes these keys. Without keys nothing of it is left.
abbrev pub deleting_from : List (List ℕ) → Sweep
deleting_from [] = Listing []
deleting_from (k ∷ ks) = Deleting k ks

-- A sweep that lists, with the keys so far; or one that deletes, after the first `from` keys are gone.
abbrev pub sweep_at : Bool → List (List ℕ) → List (List ℕ) → ℕ → Sweep
sweep_at true found keys from = Listing found
sweep_at false found keys from = deleting_from (drop from keys)

-- A sweep that goes on, or None.
abbrev pub kept : Bool → Sweep → Option Sweep
kept true s = Some s
kept false s = None
