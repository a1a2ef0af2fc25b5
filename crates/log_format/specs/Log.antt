-- How a base and the changes after it are written in a file. All numbers are big-endian.
use Rattle.log_format.specs.Change.{header}
use Rattle.s3_types.specs.declared.request.NamedPart.{NamedPart}
use Rattle.s3_types.specs.declared.request.Request.{Request}
use Rattle.s3_types.specs.declared.request.Request.TheVariants.{AbortUpload, CompleteUpload, CopyObject, CreateUpload, DeleteObject}
use Rattle.s3_types.specs.declared.request.Request.TheVariants.{DeleteObjects, MakeBucket, PutObject, UploadPart}
use Rattle.std.specs.Int.{to_be_bytes, w32, w64}
use Rattle.std.specs.List.{flat_map}
use Rattle.std.specs.Prelude.{List, codes, length, ℕ, [], ◌++◌, ◌∷◌}

-- A number in 4 bytes.
abbrev pub short : ℕ → List ℕ
short n = to_be_bytes w32 n

-- A number in 8 bytes.
abbrev pub long : ℕ → List ℕ
long n = to_be_bytes w64 n

-- Bytes or a text, after their length.
abbrev pub block : List ℕ → List ℕ
block bytes = long (length bytes) ++ bytes

-- The texts of a list, after their count.
abbrev pub counted : {A : Type 0} → (A → List ℕ) → List A → List ℕ
counted text xs = short (length xs) ++ flat_map text xs

-- A bucket and a key.
abbrev pub target : List ℕ × List ℕ → List ℕ
target x = block x.0 ++ block x.1

-- A bucket, a key and the id of an upload.
abbrev pub upload : (List ℕ × List ℕ) × ℕ → List ℕ
upload x = target x.0 ++ long x.1

-- A named part: its number, the digits of its tag, and the tag's count of parts.
abbrev pub named : NamedPart → List ℕ
named p = (short p.number ++ p.tag.digits) ++ short p.tag.parts

-- A change: a byte for its kind, and then its fields.
abbrev pub body : Request → List ℕ
body (MakeBucket name) = 1 ∷ block name
body (PutObject bucket key bytes given) = 2 ∷ (target (bucket, key) ++ long (header given)) ++ block bytes
body (DeleteObject bucket key) = 3 ∷ target (bucket, key)
body (DeleteObjects bucket keys) = 4 ∷ block bucket ++ counted block keys
body (CopyObject bucket source target_key) = 5 ∷ target (bucket, source) ++ block target_key
body (CreateUpload bucket key) = 6 ∷ target (bucket, key)
body (UploadPart bucket key id number bytes) = 7 ∷ (upload ((bucket, key), id) ++ short number) ++ block bytes
body (CompleteUpload bucket key id parts) = 8 ∷ upload ((bucket, key), id) ++ counted named parts
body (AbortUpload bucket key id) = 9 ∷ upload ((bucket, key), id)
body _ = []

-- A change, after its length.
abbrev pub record_of : Request → List ℕ
record_of change = block (body change)

-- The changes, each after an open gate.
abbrev pub opened : List Request → List ℕ
opened changes = flat_map (λ change. 1 ∷ record_of change) changes

-- The first 8 bytes of a log.
abbrev pub magic : List ℕ
magic = codes "S3ALOG01"

-- The bytes before the base.
abbrev pub head : List ℕ → List ℕ
head base = magic ++ long (length base)

-- The base, after the first 8 bytes and its length.
abbrev pub headed : List ℕ → List ℕ
headed base = head base ++ base

-- A log between two changes: its base, its changes, and a closed gate at the end.
abbrev pub log : List ℕ → List Request → List ℕ
log base changes = headed base ++ (opened changes ++ 0 ∷ [])
