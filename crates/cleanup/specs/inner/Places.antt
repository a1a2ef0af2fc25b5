-- Places among what was listed, and the requests for the items at these places.
use Rattle.s3_types.specs.declared.request.Request.{Request}
use Rattle.s3_types.specs.declared.request.Request.TheVariants.{AbortUpload, ClusterDelete, ClusterGet, DeleteObjects, GetObject}
use Rattle.s3_types.specs.declared.request.UploadRef.{UploadRef}
use Rattle.std.specs.Prelude.{List, None, Option, Some, cond, nat_lt, take, ℕ, [], ◌+◌, ◌-◌, ◌∷◌}

-- The place `step` places after `at`, but at most `len`.
abbrev pub behind : ℕ → ℕ → ℕ → ℕ
behind at step len = cond (nat_lt step (len - at)) (at + step) len

-- The abort of the first of these uploads.
abbrev pub abort_asks : List ℕ → List UploadRef → Option Request
abort_asks bucket [] = None
abort_asks bucket (u ∷ us) = Some (AbortUpload bucket u.key u.upload)

-- The deletion of the first of these cluster files.
abbrev pub remove_asks : List (List ℕ) → Option Request
remove_asks [] = None
remove_asks (p ∷ ps) = Some (ClusterDelete p)

-- The read of the object at the first of these keys.
abbrev pub get_asks : List ℕ → List (List ℕ) → Option Request
get_asks bucket [] = None
get_asks bucket (k ∷ ks) = Some (GetObject bucket k)

-- The read of the first of these cluster files.
abbrev pub get_file_asks : List (List ℕ) → Option Request
get_file_asks [] = None
get_file_asks (p ∷ ps) = Some (ClusterGet p)

-- The deletion of these keys, at most 1,000 of them.
abbrev pub delete_asks : List ℕ → List (List ℕ) → Option Request
delete_asks bucket [] = None
delete_asks bucket (k ∷ ks) = Some (DeleteObjects bucket (take 1000 (k ∷ ks)))
