-- A sweep of all keys below a prefix: which objects are left while it lists and deletes in batches (Amazon S3 API: DeleteObjects).
use Rattle.bucket_ops.specs.Asks.{Ask, DropAll, Page}
use Rattle.bucket_ops.specs.Walking.{IsWalking, keys_below}
use Rattle.list_walk.specs.Walks.{Deleting, Listing, Sweep, keys_on, last_of}
use Rattle.s3_types.specs.Answer.{without}
use Rattle.s3_types.specs.Pages.{listed}
use Rattle.s3_types.specs.Store.{Objects}
use Rattle.s3_types.specs.declared.reply.PageEntry.{PageEntry}
use Rattle.std.specs.Prelude.{List, false, length, take, ℕ, ◌*◌, ◌++◌, ◌+◌, ◌∷◌, ◌≡◌}

-- The next request of a sweep to the bucket.
abbrev pub sweep_asks : List ℕ → Sweep → Ask
sweep_asks q (Listing keys) = Page q false (last_of keys) 1000
sweep_asks q (Deleting k ks) = DropAll (take 1000 (k ∷ ks))

-- The first of these keys are deleted from z, and the others are still there.
abbrev pub IsDeleting : Objects → List (List ℕ) → List (List ℕ) → Objects → Type 0
IsDeleting z all left m = (gone : List (List ℕ)) × (gone ++ left ≡ all) × (m ≡ without z gone)

-- The sweep lists these keys and has deleted nothing; or it has deleted the first of all keys.
abbrev pub IsSweeping : List ℕ → Objects → Sweep → Objects → Type 0
IsSweeping q z (Listing keys) m = (m ≡ z) × ((found : List PageEntry) × (keys ≡ keys_on found) × IsWalking q z found)
IsSweeping q z (Deleting k ks) m = IsDeleting z (keys_below q z) (k ∷ ks) m

-- At most this much is left.
abbrev pub sweep_left : List ℕ → Sweep → Objects → ℕ
sweep_left q (Listing keys) m = 1 + length keys + 2 * length (listed q false (last_of keys) m)
sweep_left q (Deleting k ks) m = length (k ∷ ks)
