-- Definitions beside those of `Sweeping` that no public contract cites.
use Rattle.bucket_ops.specs.Sweeping.{IsDeleting, IsSweeping, sweep_left}
use Rattle.bucket_ops.specs.Walking.{keys_below}
use Rattle.list_walk.specs.Walks.{Deleting, Listing, Sweep}
use Rattle.s3_types.specs.Answer.{without}
use Rattle.s3_types.specs.Store.{Objects}
use Rattle.std.specs.Prelude.{List, None, Option, Some, ℕ, ◌<◌, ◌∷◌, ◌≡◌}

-- The sweep goes on deleting, or all keys are deleted.
abbrev pub IsDeleted : Objects → List (List ℕ) → Option Sweep → Objects → Type 0
IsDeleted z all (Some (Listing keys)) m = ⊥
IsDeleted z all (Some (Deleting k ks)) m = IsDeleting z all (k ∷ ks) m
IsDeleted z all None m = m ≡ without z all

-- The sweep goes on as it should, or all keys are deleted.
abbrev pub IsSwept : List ℕ → Objects → Option Sweep → Objects → Type 0
IsSwept q z (Some w) m = IsSweeping q z w m
IsSwept q z None m = m ≡ without z (keys_below q z)

-- The sweep has less left than n.
abbrev pub LessLeft : List ℕ → Objects → Option Sweep → ℕ → Type 0
LessLeft q m (Some w) n = sweep_left q w m < n
LessLeft q m None n = 0 < n
