-- The directories above a path are looked at for a file one by one, from the root down.
use Rattle.bucket_ops.specs.declared.look.Look.{Look}
use Rattle.bucket_ops.specs.declared.look.Look.TheVariants.{There}
use Rattle.fs_ops.specs.declared.climb.Climb.{Climb}
use Rattle.fs_ops.specs.declared.climb.Climbed.{Climbed}
use Rattle.fs_ops.specs.declared.climb.Climbed.TheVariants.{File, Free, On}
use Rattle.fs_tree.specs.Tree.{IsFirstFile, NoFiles}
use Rattle.s3_types.specs.Store.{Objects}
use Rattle.std.specs.Prelude.{List, ℕ, [], ◌∷◌}

-- The climb over these directories, or its end if none is left.
abbrev pub climbing : List (List ℕ) → Climbed
climbing [] = Free
climbing (k ∷ ks) = On (record { first = k; rest = ks })

-- The climb after a look: a file ends it, and otherwise it goes on.
abbrev pub climbed : Climb → Look → Climbed
climbed c There = File c.first
climbed c _ = climbing c.rest

-- What holds of the directories above that are left also holds of all of them.
pub record Passed (z : Objects) (all rest : List (List ℕ)) : Type 0 where
  pub file : (a : List ℕ) → IsFirstFile z rest a → IsFirstFile z all a
  pub free : NoFiles z rest → NoFiles z all

-- Holds if the directories before the next one of the climb have no file.
abbrev pub IsClimb : Objects → List (List ℕ) → Climb → Type 0
IsClimb z all c = Passed z all (c.first ∷ c.rest)
