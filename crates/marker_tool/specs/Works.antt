-- The requests of the marker tool in a directory, beside looks.
use Rattle.text_and_lists.specs.Members.{IsIn}
use Rattle.bucket_ops.specs.Asks.{Ask, DropAll, Put, is_look}
use Rattle.fs_ops.specs.Places.{bucket_asks}
use Rattle.fs_tree.specs.MarkerTool.{IsMissing, IsSurplus}
use Rattle.fs_tree.specs.Tree.{IsDirectory, marker}
use Rattle.s3_types.specs.Store.{Objects}
use Rattle.std.specs.Prelude.{List, length, take, true, ℕ, [], ◌∷◌, ◌≡◌, ◌≤◌, ◌⊎◌}
use Rattle.std.specs.FinMap as fin

-- The request that deletes the first thousand keys.
abbrev pub drops : List (List ℕ) → Ask
drops ks = DropAll (take 1000 ks)

-- The request that puts a marker at the first key, or a look if there is none.
abbrev pub puts : List (List ℕ) → Ask
puts [] = bucket_asks
puts (k ∷ ks) = Put k []

-- The objects with markers at these keys.
abbrev pub with_markers : Objects → List (List ℕ) → Objects
with_markers z [] = z
with_markers z (k ∷ ks) = with_markers (fin.insert z k marker) ks

-- These are surplus keys of a directory, at most a thousand.
pub record IsBatch (p : List ℕ) (z : Objects) (ks : List (List ℕ)) : Type 0 where
  pub directory : IsDirectory z p
  pub few : length ks ≤ 1000
  pub each : (k : List ℕ) → IsIn k ks → IsSurplus p z k

-- Holds if the request only looks, or deletes some surplus keys of a directory in one batch, at least one.
abbrev pub CleanSends : List ℕ → Objects → Ask → Type 0
CleanSends p z a = (is_look a ≡ true) ⊎ ((k : List ℕ) × (ks : List (List ℕ)) × (a ≡ DropAll (k ∷ ks)) × IsBatch p z (k ∷ ks))

-- Holds if the request only looks, or puts a missing marker of a directory.
abbrev pub FillSends : List ℕ → Objects → Ask → Type 0
FillSends p z a = (is_look a ≡ true) ⊎ ((k : List ℕ) × (a ≡ Put k []) × IsDirectory z p × IsMissing p z k)
