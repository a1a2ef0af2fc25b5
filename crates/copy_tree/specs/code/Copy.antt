-- The copy of all that is below a directory, by its stages.
use Rattle.bucket_ops.specs.Asks.{Ask, Get, Head}
use Rattle.bucket_ops.specs.Walking.{walk_asks}
use Rattle.copy_tree.specs.declared.stages.CopyStage.{CopyStage}
use Rattle.copy_tree.specs.declared.stages.CopyStage.TheVariants.{Copy, Here, Source, Target, Up, Walk, WalkTarget}
use Rattle.dir_markers.specs.Markers.{keys_above}
use Rattle.fs_ops.specs.Places.{bucket_asks, key_if, look_asks, prefix_of}
use Rattle.fs_rename.specs.Copies.{copy_asks}
use Rattle.fs_tree.specs.declared.copy.CopyCount.{CopyCount}
use Rattle.fs_tree.specs.declared.copy.CopyRefusal.{CopyRefusal}
use Rattle.std.specs.Prelude.{List, None, Option, Result, Some, drop, ℕ, [], ◌++◌, ◌+◌, ◌∷◌}

-- The paths of a source and a target.
pub record CopyPaths : Type 0 where
  pub source : List ℕ
  pub target : List ℕ

-- The answer of a copy.
abbrev pub Answer : Type 0
Answer = Result CopyCount CopyRefusal

-- The list of this key, if there is one; the root has none.
abbrev pub one_of : Option (List ℕ) → List (List ℕ)
one_of None = []
one_of (Some k) = k ∷ []

-- The keys at which a file would be in the way: those above the target, and its own.
abbrev pub climb : List ℕ → List (List ℕ)
climb t = keys_above t ++ one_of (key_if t)

-- The request that reads the first of these keys, or looks at the bucket if there is none.
abbrev pub read_of : List (List ℕ) → Ask
read_of [] = bucket_asks
read_of (k ∷ ks) = Get k

-- A copy begins with a look at the source.
abbrev pub first : CopyPaths → CopyStage
first o = Here

-- The request of each stage.
abbrev pub asks : CopyPaths → CopyStage → Ask
asks o Here = look_asks o.source
asks o (Walk w) = walk_asks (prefix_of o.source) w
asks o (Up ks c) = Head c.first
asks o (WalkTarget ks ls w) = walk_asks (prefix_of o.target) w
asks o (Source c n) = read_of (drop n c.stood)
asks o (Target c n b h) = read_of (drop n c.stood_at)
asks o (Copy c count) = copy_asks c

-- ---- the copies

-- ---- the pairs of which both exist

-- ---- the walk below the target

-- ---- the paths above the target

-- ---- the source

-- ---- the steps after replies
