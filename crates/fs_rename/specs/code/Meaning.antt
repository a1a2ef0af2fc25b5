-- What holds at each stage of a rename, what it gives, and what holds at every point.
use Rattle.bucket_ops.specs.Asks.{Ask, Copy as CopyKey, DropAll, is_look}
use Rattle.fs_ops.specs.code.Delete.{PutsAbove}
use Rattle.fs_rename.specs.code.Rename.{Renaming}
use Rattle.fs_tree.specs.Moves.{AllFit, IsFreePlace, IsMove}
use Rattle.s3_types.specs.Store.{Objects}
use Rattle.std.specs.Prelude.{List, length, true, ℕ, ◌∷◌, ◌≡◌, ◌≤◌, ◌⊎◌}
use Rattle.text_and_lists.specs.Members.{IsIn}

-- These are keys of the source, at most a thousand.
pub record IsBatch (o : Renaming) (z : Objects) (q : List ℕ) (ks : List (List ℕ)) : Type 0 where
  pub few : length ks ≤ 1000
  pub each : (k : List ℕ) → IsIn k ks → (l : List ℕ) × IsMove z o.source q k l

-- Holds if the request copies a key to its new key at q, deletes old keys in one batch, or puts the marker of the directory above.
abbrev pub Moves : Renaming → Objects → List ℕ → Ask → Type 0
Moves o z q a =
    ((k : List ℕ) × (l : List ℕ) × (a ≡ CopyKey k l) × IsMove z o.source q k l)
    ⊎ (((k : List ℕ) × (ks : List (List ℕ)) × (a ≡ DropAll (k ∷ ks)) × IsBatch o z q (k ∷ ks))
    ⊎ PutsAbove o.source z a)

-- Holds if the request only looks, or if the source may be moved to a new place where all its keys fit, and the request moves it there.
abbrev pub Asks : Renaming → Objects → Ask → Type 0
Asks o z a = (is_look a ≡ true) ⊎ ((q : List ℕ) × IsFreePlace z o.source o.target q × AllFit z o.source q × Moves o z q a)
