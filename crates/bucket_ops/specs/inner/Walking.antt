-- Definitions beside those of `Walking` that no public contract cites.
use Rattle.bucket_ops.specs.Walking.{IsWalking, all_below, walk_left}
use Rattle.list_walk.specs.Walks.{More, Walked, Whole}
use Rattle.s3_types.specs.Store.{Objects}
use Rattle.s3_types.specs.declared.reply.PageEntry.{PageEntry}
use Rattle.std.specs.Prelude.{List, length, ℕ, ◌<◌, ◌≡◌}

-- The walk goes on, or these entries are all.
abbrev pub IsWalked : List ℕ → Objects → Walked PageEntry → Type 0
IsWalked q z (More found) = IsWalking q z found
IsWalked q z (Whole found) = found ≡ all_below q z

-- Less than n is left; if the walk is whole, it found fewer than n keys.
abbrev pub LessWalked : List ℕ → Objects → Walked PageEntry → ℕ → Type 0
LessWalked q m (More found) n = walk_left q found m < n
LessWalked q m (Whole found) n = length found < n
