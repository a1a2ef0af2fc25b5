-- A look for keys below partitions, by the partitions that are left to check.
use Rattle.path_keys.specs.Paths.{Path, below}
use Rattle.s3_types.specs.declared.reply.Reply.{Reply}
use Rattle.s3_types.specs.declared.reply.Reply.TheVariants.{Page}
use Rattle.s3_types.specs.declared.request.Request.{Request}
use Rattle.s3_types.specs.declared.request.Request.TheVariants.{ListPage}
use Rattle.std.specs.Prelude.{Bool, List, None, Option, Some, codes, false, true, ℕ, [], ◌++◌, ◌∷◌}

-- The request for one key below the first of the partitions.
abbrev pub check_asks : Path → List (List ℕ) → Option Request
check_asks dest [] = None
check_asks dest (d ∷ ds) = Some (ListPage dest.bucket (below dest.key (d ++ codes "/")) false [] 1)

-- The partition below which a key was found, or None.
abbrev pub found_below : List (List ℕ) → Reply → Option (List ℕ)
found_below (d ∷ ds) (Page (x ∷ xs) more) = Some d
found_below all r = None

-- The partitions left to check after a reply.
abbrev pub left_after : List (List ℕ) → Reply → List (List ℕ)
left_after (d ∷ ds) (Page [] more) = ds
left_after all r = all

-- True if no partition is left to check.
abbrev pub is_none : List (List ℕ) → Bool
is_none [] = true
is_none (d ∷ ds) = false
