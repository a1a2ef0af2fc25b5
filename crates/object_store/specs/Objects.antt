-- Single objects of a bucket.
use Rattle.text_and_lists.specs.Order.{text_cmp}
use Rattle.s3_types.specs.Store.{Objects}
use Rattle.s3_types.specs.declared.object.Head.{Head}
use Rattle.s3_types.specs.declared.object.Object.{Object}
use Rattle.std.specs.List.{filter}
use Rattle.std.specs.Ordering.{is_lt}
use Rattle.std.specs.Prelude.{List, None, Option, Some, length, slice_get, ℕ, [], ◌∷◌, ◌≡◌}
use Rattle.std.specs.FinMap as map

-- The length of an object in bytes, and its header (Amazon S3 API, HeadObject).
abbrev pub head_of : Object → Head
head_of o = record { length = length o.bytes; header = o.header }

-- The entries whose keys are greater than the given key, or all if none is given.
abbrev pub rest_of : Option (List ℕ) → Objects → List (List ℕ × Object)
rest_of None m = map.entries m
rest_of (Some k) m = filter (λ e. is_lt (text_cmp k e.0)) (map.entries m)

-- The first of these entries.
abbrev pub next_of : Option (List ℕ) → Objects → Option (List ℕ × Object)
next_of after m = slice_get (rest_of after m) 0

-- The result is the first of the entries after `after`, and the others are those after its key; or there is no entry after `after`.
abbrev pub IsNext : Option (List ℕ) → Objects → Option (List ℕ × Object) → Type 0
IsNext after m None = rest_of after m ≡ []
IsNext after m (Some e) = rest_of after m ≡ e ∷ rest_of (Some e.0) m
