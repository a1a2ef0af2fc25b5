-- How much walks and sweeps have left in a scene.
use Rattle.list_walk.specs.Walks.{Deleting, Listing, Sweep, last_of, last_ref}
use Rattle.s3_types.specs.Pages.{begins, listed}
use Rattle.s3_types.specs.Store.{BucketContent, Scene}
use Rattle.s3_types.specs.declared.request.Request.{Request}
use Rattle.s3_types.specs.declared.request.Request.TheVariants.{CompleteUpload, CopyObject, CreateUpload, PutObject, UploadPart}
use Rattle.s3_types.specs.declared.request.UploadRef.{UploadRef}
use Rattle.std.specs.List.{filter}
use Rattle.std.specs.Prelude.{Bool, List, None, Option, Some, false, length, true, ℕ, ◌*◌, ◌+◌, ◌/◌, ◌∷◌}
use Rattle.std.specs.FinMap as fin
use Rattle.s3_types.specs.Multipart as uploads

-- How many of something a bucket has; 0 if it does not exist.
abbrev pub count_in : (BucketContent → ℕ) → Option BucketContent → ℕ
count_in f (Some c) = f c
count_in f None = 0

-- How many of something the bucket with this name has; 0 if it does not exist.
abbrev pub in_bucket : Scene → List ℕ → (BucketContent → ℕ) → ℕ
in_bucket s b f = count_in f (fin.get s.content.buckets b)

-- The number of keys below a prefix after a text.
abbrev pub keys_left : List ℕ → List ℕ → List ℕ → Scene → ℕ
keys_left b p after s = in_bucket s b (λ c. length (listed p false after c.objects))

-- The number of live uploads below a prefix after the given one.
abbrev pub refs_left : List ℕ → List ℕ → Option UploadRef → Scene → ℕ
refs_left b p after s = in_bucket s b (λ c. length (uploads.listed p after c.uploads))

-- The number of files in the cluster below a prefix.
abbrev pub files_left : List ℕ → Scene → ℕ
files_left p s = length (filter (begins p) (fin.keys s.files))

-- n / 1000, rounded up.
abbrev pub thousands : ℕ → ℕ
thousands n = (n + 999) / 1000

-- At most this many pages of a walk over keys are to come.
abbrev pub walk_left : List ℕ → List ℕ → List (List ℕ) → Scene → ℕ
walk_left b p keys s = 1 + thousands (keys_left b p (last_of keys) s)

-- At most this many pages and batches of a sweep are to come. A key that is still to be listed counts for its page and its batch.
abbrev pub sweep_left : List ℕ → List ℕ → Sweep → Scene → ℕ
sweep_left b p (Listing keys) s = 1 + thousands (length keys + 2 * keys_left b p (last_of keys) s)
sweep_left b p (Deleting k ks) s = thousands (length (k ∷ ks))

-- How much the sweep has left, if it goes on.
abbrev pub left_of : List ℕ → List ℕ → Option Sweep → Scene → ℕ
left_of b p (Some w) s = sweep_left b p w s
left_of b p None s = 0

-- A walk over live uploads with one request for each upload: at most this many pages and requests are to come.
abbrev pub uploads_left : List ℕ → List ℕ → List UploadRef → Scene → ℕ
uploads_left b p found s = 1 + (length found + 2 * refs_left b p (last_ref None found) s)

-- True if the request may add a key.
abbrev pub adds_key : Request → Bool
adds_key (PutObject n k bytes header) = true
adds_key (CopyObject n source target) = true
adds_key (CompleteUpload n k id parts) = true
adds_key _ = false

-- True if the request may add or change a live upload.
abbrev pub sets_upload : Request → Bool
sets_upload (CreateUpload n k) = true
sets_upload (UploadPart n k id number bytes) = true
sets_upload _ = false

-- 1 if true, else 0.
abbrev pub one_if : Bool → ℕ
one_if true = 1
one_if false = 0
