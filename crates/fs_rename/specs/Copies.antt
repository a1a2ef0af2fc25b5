-- Keys that are copied one by one, and are deleted after all are copied.
use Rattle.bucket_ops.specs.Asks.{Ask, Copy}
use Rattle.fs_ops.specs.Places.{bucket_asks}
use Rattle.fs_rename.specs.declared.copying.CopyStep.{CopyStep}
use Rattle.fs_rename.specs.declared.copying.CopyStep.TheVariants.{All, Next}
use Rattle.fs_rename.specs.declared.copying.Copying.{Copying}
use Rattle.std.specs.Prelude.{Bool, List, drop, false, length, nat_lt, true, ℕ, [], ◌&&◌, ◌+◌, ◌-◌, ◌∷◌}

-- The request that copies the first key to its new key, or looks at the bucket if there is none.
abbrev pub copy_of : List (List ℕ) → List (List ℕ) → Ask
copy_of [] ls = bucket_asks
copy_of (k ∷ ks) [] = bucket_asks
copy_of (k ∷ ks) (l ∷ ls) = Copy k l

-- The request that copies the next key.
abbrev pub copy_asks : Copying → Ask
copy_asks c = copy_of (drop c.from c.keys) (drop c.from c.places)

-- True if another copy follows the next one.
abbrev pub has_more : Copying → Bool
has_more c = nat_lt c.from (length c.keys) && nat_lt 1 (length c.keys - c.from)

-- The next copy, or the end if all keys are copied.
abbrev pub copied_next : Bool → Copying → CopyStep
copied_next true c = Next (record { keys = c.keys; places = c.places; from = c.from + 1 })
copied_next false c = All c.keys

-- ---- what holds

-- ---- moves that may be made

-- ---- the moves of a source
