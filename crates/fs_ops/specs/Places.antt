-- The requests about a path.
use Rattle.bucket_ops.specs.Asks.{Ask, Drop, Get, Head, Page, Put}
use Rattle.dir_markers.specs.Markers.{marker_of}
use Rattle.path_keys.specs.Paths.{below}
use Rattle.s3_types.specs.Store.{Objects}
use Rattle.std.specs.Prelude.{List, None, Option, Some, false, ℕ, [], ◌∷◌, ◌≡◌}
use Rattle.std.specs.FinMap as fin

-- The key of a path; the root has none.
abbrev pub key_if : List ℕ → Option (List ℕ)
key_if [] = None
key_if (x ∷ p) = Some (x ∷ p)

-- The prefix of all keys below a path.
abbrev pub prefix_of : List ℕ → List ℕ
prefix_of p = below p []

-- The request that looks whether the bucket exists.
abbrev pub bucket_asks : Ask
bucket_asks = Page [] false [] 1

-- The request for the first n keys below a path. The path's marker counts as one.
abbrev pub below_asks : List ℕ → ℕ → Ask
below_asks p n = Page (prefix_of p) false [] n

-- The request that looks for a file at a path; at the root, for the bucket.
abbrev pub look_asks : List ℕ → Ask
look_asks [] = below_asks [] 1
look_asks (x ∷ p) = Head (x ∷ p)

-- The request for the bytes at a path; at the root, the look for the bucket.
abbrev pub get_asks : List ℕ → Ask
get_asks [] = below_asks [] 1
get_asks (x ∷ p) = Get (x ∷ p)

-- The request that deletes a path's file; at the root nothing is deleted.
abbrev pub drop_asks : List ℕ → Ask
drop_asks [] = below_asks [] 1
drop_asks (x ∷ p) = Drop (x ∷ p)

-- The request that deletes a path's marker; at the root nothing is deleted.
abbrev pub drop_marker_asks : List ℕ → Ask
drop_marker_asks [] = below_asks [] 1
drop_marker_asks (x ∷ p) = Drop (marker_of (x ∷ p))

-- The request that puts a path's marker; at the root nothing is put.
abbrev pub put_marker_asks : List ℕ → Ask
put_marker_asks [] = below_asks [] 1
put_marker_asks (x ∷ p) = Put (marker_of (x ∷ p)) []

-- Holds if the path is not the root and no file exists there.
abbrev pub NoFileAt : Objects → List ℕ → Type 0
NoFileAt m [] = ⊥
NoFileAt m (x ∷ p) = fin.get m (x ∷ p) ≡ None
