-- What a climb over the directories above a path has seen.
use Rattle.bucket_ops.specs.declared.look.Look.{Look}
use Rattle.fs_ops.proofs.Looks.{IsSeen}
use Rattle.fs_ops.specs.code.Climbs.{IsClimb, Passed, climbed, climbing}
use Rattle.fs_ops.specs.declared.climb.Climb.{Climb}
use Rattle.fs_ops.specs.declared.climb.Climbed.{Climbed}
use Rattle.fs_ops.specs.declared.climb.Climbed.TheVariants.{File, Free, On}
use Rattle.fs_tree.specs.Tree.{IsFirstFile, NoFiles, Stands}
use Rattle.s3_types.specs.Store.{Objects}
use Rattle.std.proofs.Common.{arith}
use Rattle.std.specs.Prelude.{List, None, length, ℕ, ◌<◌, ◌≡◌}
use Rattle.std.specs.FinMap as fin

module _ (z : Objects) (all : List (List ℕ)) where
  -- what a result of the climb says holds of all directories
  abbrev pub IsClimbed : Climbed → Type 0
  IsClimbed (File k) = IsFirstFile z all k
  IsClimbed (On c) = IsClimb z all c
  IsClimbed Free = NoFiles z all

  begun : (ks : List (List ℕ)) → Passed z all ks → IsClimbed (climbing ks)
  begun ks h = grind arith

  pub seen_on : (c : Climb) (l : Look) → IsClimb z all c → IsSeen l (Stands z c.first) (fin.get z c.first ≡ None) → IsClimbed (climbed c l)
  seen_on c l h g = grind arith

  pub all_on : IsClimbed (climbing all)
  all_on = begun all (record { file = λ a g. g; free = λ g. g })

-- Holds if a climb that goes on has fewer than n directories to come.
abbrev pub IsShorter : Climbed → ℕ → Type 0
IsShorter (On c) n = length c.rest < n
IsShorter _ n = Unit {0}

pub climbing_falls : (ks : List (List ℕ)) → IsShorter (climbing ks) (length ks)
climbing_falls ks = grind arith

pub climbed_falls : (c : Climb) (l : Look) → IsShorter (climbed c l) (length c.rest)
climbed_falls c l = grind arith
