-- A bound on the number of requests that each command sends, given what its bucket holds.
use Rattle.bucket_ops.specs.Asks.{objects_at}
use Rattle.bucket_ops.specs.Uploads.{size, uploads_from}
use Rattle.bucket_ops.specs.Walking.{all_below}
use Rattle.copy_tree.specs.Public.{most_copies}
use Rattle.dir_markers.specs.Markers.{keys_above}
use Rattle.fs_ops.specs.Places.{prefix_of}
use Rattle.fs_rename.specs.Between.{most_in}
use Rattle.fs_rename.specs.Public.{most_moves}
use Rattle.marker_tool.specs.Markers.{missing_in, surplus_in}
use Rattle.path_keys.specs.Paths.{Path, below}
use Rattle.s3_types.specs.Pages.{listed}
use Rattle.s3_types.specs.Store.{Objects, Scene}
use Rattle.s3a_shell.specs.Moving.{route}
use Rattle.s3a_words.specs.declared.command.Command.{Command}
use Rattle.s3a_words.specs.declared.command.Command.TheVariants.{AbortUploads, Cat, CleanMarkers, Cp, FillMarkers, Ls, Markers, Mb, Mkdir}
use Rattle.s3a_words.specs.declared.command.Command.TheVariants.{Mv, Put, PutDrop, PutForce, Rm, Rmr, Stat, Uploads}
use Rattle.std.specs.Prelude.{List, None, length, true, ℕ, [], ◌*◌, ◌+◌}

-- ---- what is counted

-- The number of files and directories directly below a path.
abbrev pub children_below : List ℕ → Objects → ℕ
children_below p m = length (listed (prefix_of p) true [] m)

-- The number of keys below a path.
abbrev pub count_below : List ℕ → Objects → ℕ
count_below p m = length (all_below (prefix_of p) m)

-- The number of surplus markers below a path.
abbrev pub surplus_below : List ℕ → Objects → ℕ
surplus_below p m = length (surplus_in (all_below (prefix_of p) m))

-- The number of markers missing below a path.
abbrev pub missing_below : List ℕ → Objects → ℕ
missing_below p m = length (missing_in (prefix_of p) (all_below (prefix_of p) m))

-- The number of live uploads below a path: none if the bucket does not exist.
abbrev pub uploads_at : Path → Scene → ℕ
uploads_at path z = size (uploads_from z path.bucket (below path.key []) None)

-- ---- how many requests

-- The bound of a command on one path: `most` of its bucket's objects, or one request if the bucket does not exist.
abbrev pub most_on : Path → Scene → (Objects → ℕ) → ℕ
most_on path z most = most_in (objects_at z path.bucket) most

-- `put`, `put-force` and `put-drop`: six requests, one for each directory above the file, and one for each byte of the input.
abbrev pub most_put : Path → List ℕ → ℕ
most_put path bytes = 6 + length (keys_above path.key) + length bytes

-- The most requests that a command sends if it begins in the scene z with this input.
abbrev pub most_requests : Command → List ℕ → Scene → ℕ
most_requests (Mb name) bytes z = 1
most_requests (Ls path) bytes z = most_on path z (λ m. 2 + children_below path.key m)
most_requests (Stat path) bytes z = most_on path z (λ m. 2)
most_requests (Cat path) bytes z = most_on path z (λ m. 2)
most_requests (Put path) bytes z = most_put path bytes
most_requests (PutForce path) bytes z = most_put path bytes
most_requests (PutDrop path) bytes z = most_put path bytes
most_requests (Mkdir path) bytes z = most_on path z (λ m. 3 + length (keys_above path.key))
most_requests (Mv from to) bytes z = most_moves (route from to) z
most_requests (Cp from to) bytes z = most_copies (route from to) z
most_requests (Rm path) bytes z = most_on path z (λ m. 6 + 2 * count_below path.key m)
most_requests (Rmr path) bytes z = most_on path z (λ m. 6 + 2 * count_below path.key m)
most_requests (Uploads path) bytes z = 1 + 2 * uploads_at path z
most_requests (AbortUploads path) bytes z = 1 + 2 * uploads_at path z
most_requests (Markers path) bytes z = most_on path z (λ m. 3 + 2 * count_below path.key m)
most_requests (CleanMarkers path) bytes z = most_on path z (λ m. 3 + 2 * count_below path.key m + surplus_below path.key m)
most_requests (FillMarkers path) bytes z = most_on path z (λ m. 3 + 2 * count_below path.key m + missing_below path.key m)
most_requests _ bytes z = 0
