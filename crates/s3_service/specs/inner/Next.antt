-- The buckets, one after another.
use Rattle.text_and_lists.specs.Order.{text_cmp}
use Rattle.s3_types.specs.Store.{BucketContent, Buckets}
use Rattle.std.specs.List.{filter}
use Rattle.std.specs.Ordering.{is_lt}
use Rattle.std.specs.Prelude.{List, None, Option, Some, slice_get, ℕ, [], ◌∷◌, ◌≡◌}
use Rattle.std.specs.FinMap as fin

-- The buckets whose names are greater than the given name, or all if none is given.
abbrev pub rest_of : Option (List ℕ) → Buckets → List (List ℕ × BucketContent)
rest_of None m = fin.entries m
rest_of (Some k) m = filter (λ e. is_lt (text_cmp k e.0)) (fin.entries m)

-- The first of these buckets.
abbrev pub next_of : Option (List ℕ) → Buckets → Option (List ℕ × BucketContent)
next_of after m = slice_get (rest_of after m) 0

-- The result is the first of the buckets after `after`, and the others are those after its name; or there is no bucket after `after`.
abbrev pub IsNext : Option (List ℕ) → Buckets → Option (List ℕ × BucketContent) → Type 0
IsNext after m None = rest_of after m ≡ []
IsNext after m (Some e) = rest_of after m ≡ e ∷ rest_of (Some e.0) m
