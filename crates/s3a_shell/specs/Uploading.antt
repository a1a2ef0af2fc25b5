-- What the commands on uploads do and say (Amazon S3 API: ListMultipartUploads, ListParts, AbortMultipartUpload).
use Rattle.fs_files.specs.Placed.{placed}
use Rattle.path_keys.specs.Paths.{Path, below}
use Rattle.s3_types.specs.Multipart.{listed, live, sizes}
use Rattle.s3_types.specs.Store.{BucketContent, Scene, Upload}
use Rattle.s3_types.specs.declared.reply.PartSize.{PartSize}
use Rattle.s3_types.specs.declared.request.Request.{Request}
use Rattle.s3_types.specs.declared.request.Request.TheVariants.{AbortUpload}
use Rattle.s3_types.specs.declared.request.UploadRef.{UploadRef}
use Rattle.s3a_shell.specs.Texts.{fine, refusing}
use Rattle.s3a_shell.specs.declared.said.Said.{Said}
use Rattle.std.specs.Fmt.{decimal}
use Rattle.std.specs.List.{flat_map, sum_by}
use Rattle.std.specs.Prelude.{List, None, Option, Some, codes, length, take, ℕ, [], ◌++◌, ◌∷◌, ◌≡◌}
use Rattle.text_and_lists.specs.Members.{IsIn}
use Rattle.std.specs.FinMap as fin

-- The live uploads of a bucket below a path, by key and then by id. At the root these are all.
abbrev pub uploads_below : Path → BucketContent → List UploadRef
uploads_below path c = listed (below path.key []) None c.uploads

-- The sizes of an upload's parts.
abbrev pub sizes_of : Option Upload → List PartSize
sizes_of None = []
sizes_of (Some u) = sizes u.parts

-- The sum of the parts' lengths in bytes.
abbrev pub bytes_in : List PartSize → ℕ
bytes_in parts = sum_by (λ p. p.length) parts

-- `ID PARTS BYTES KEY`: the upload's id, the number of its parts, their bytes, and its key.
abbrev pub upload_line : UploadRef → List PartSize → List ℕ
upload_line r parts = decimal r.upload ++ (codes " " ++ (decimal (length parts) ++
    (codes " " ++ (decimal (bytes_in parts) ++ (codes " " ++ (r.key ++ 10 ∷ []))))))

-- A line for each of these uploads.
abbrev pub upload_lines : BucketContent → List UploadRef → List ℕ
upload_lines c rs = flat_map (λ r. upload_line r (sizes_of (live c.uploads r.key r.upload))) rs

-- What a command on uploads says if the bucket does not exist.
abbrev pub no_bucket : Said
no_bucket = refusing (codes "no-such-bucket") None

-- Holds if `uploads` says this, given what the bucket holds.
abbrev pub ListedIn : Option BucketContent → Path → Said → Type 0
ListedIn None path what = what ≡ no_bucket
ListedIn (Some c) path what = what ≡ fine (upload_lines c (uploads_below path c))

-- The uploads were listed, and nothing changed.
abbrev pub DidList : Path → Scene → Said → Scene → Type 0
DidList path z what s = ListedIn (fin.get z.content.buckets path.bucket) path what × (s ≡ z)

-- `aborted N`
abbrev pub aborted_line : ℕ → List ℕ
aborted_line count = codes "aborted " ++ (decimal count ++ 10 ∷ [])

-- These uploads of a bucket that held c are gone, and nothing else changed.
pub record AreEnded (bucket : List ℕ) (c : BucketContent) (rs : List UploadRef) (z s : Scene) : Type 0 where
  pub content : BucketContent
  pub scene : s ≡ placed z bucket content z.content.next
  pub objects : content.objects ≡ c.objects
  pub gone : (r : UploadRef) → IsIn r rs → live content.uploads r.key r.upload ≡ None
  pub kept : (id : ℕ) → ((r : UploadRef) → IsIn r rs → r.upload ≡ id → ⊥) → fin.get content.uploads id ≡ fin.get c.uploads id

-- Holds if `abort-uploads` says this and leaves the scene s, given what the bucket held.
abbrev pub AbortedIn : Option BucketContent → Path → Scene → Said → Scene → Type 0
AbortedIn None path z what s = (what ≡ no_bucket) × (s ≡ z)
AbortedIn (Some c) path z what s = (what ≡ fine (aborted_line (length (uploads_below path c))))
    × AreEnded path.bucket c (uploads_below path c) z s

-- The uploads were aborted, or the bucket does not exist.
abbrev pub DidAbort : Path → Scene → Said → Scene → Type 0
DidAbort path z what s = AbortedIn (fin.get z.content.buckets path.bucket) path z what s

-- Holds if the first few of the live uploads below a path are gone, and nothing else changed.
abbrev pub EndedSome : Option BucketContent → Path → Scene → Scene → Type 0
EndedSome None path z s = s ≡ z
EndedSome (Some c) path z s = (n : ℕ) × AreEnded path.bucket c (take n (uploads_below path c)) z s

-- Holds at every point while uploads are aborted: the first few of them are gone.
abbrev pub AbortedSome : Path → Scene → Scene → Type 0
AbortedSome path z s = EndedSome (fin.get z.content.buckets path.bucket) path z s

-- ---- by requests

-- The request that aborts an upload.
abbrev pub aborts : List ℕ → UploadRef → Request
aborts b r = AbortUpload b r.key r.upload
