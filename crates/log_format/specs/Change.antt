-- Which requests change a store, and the bounds of the values in them.
use Rattle.s3_types.specs.Names.{is_bucket, is_key}
use Rattle.s3_types.specs.Tags.{is_hex}
use Rattle.s3_types.specs.declared.request.NamedPart.{NamedPart}
use Rattle.s3_types.specs.declared.request.Request.{Request}
use Rattle.s3_types.specs.declared.request.Request.TheVariants.{AbortUpload, CompleteUpload, CopyObject, CreateUpload, DeleteObject}
use Rattle.s3_types.specs.declared.request.Request.TheVariants.{DeleteObjects, MakeBucket, PutObject, UploadPart}
use Rattle.std.specs.List.{AllByRecursion, list_all}
use Rattle.std.specs.Prelude.{Bool, List, None, Option, Some, false, length, true, ℕ, ◌+◌, ◌<◌, ◌^◌, ◌≡◌}
use Rattle.std.specs.Str.{is_utf8}

-- True if the request goes to the store and may change it.
abbrev pub is_changing : Request → Bool
is_changing (MakeBucket name) = true
is_changing (PutObject bucket key bytes header) = true
is_changing (DeleteObject bucket key) = true
is_changing (DeleteObjects bucket keys) = true
is_changing (CopyObject bucket source target) = true
is_changing (CreateUpload bucket key) = true
is_changing (UploadPart bucket key upload number bytes) = true
is_changing (CompleteUpload bucket key upload parts) = true
is_changing (AbortUpload bucket key upload) = true
is_changing _ = false

-- How many keys or parts the request names.
abbrev pub named_in : Request → ℕ
named_in (DeleteObjects bucket keys) = length keys
named_in (CompleteUpload bucket key upload parts) = length parts
named_in _ = 0

-- The number of a length header: its length plus 1, or 0 for none.
abbrev pub header : Option ℕ → ℕ
header None = 0
header (Some n) = n + 1

-- The bytes are UTF-8.
abbrev pub IsText : List ℕ → Type 0
IsText text = is_utf8 text ≡ true

-- The bytes are a bucket's name.
abbrev pub IsBucket : List ℕ → Type 0
IsBucket text = is_bucket text ≡ true

-- The bytes are a key.
abbrev pub IsKey : List ℕ → Type 0
IsKey text = is_key text ≡ true

-- The number is below the limit.
abbrev pub IsBelow : ℕ → ℕ → Type 0
IsBelow limit n = n < limit

-- The text is 32 lower-case hex digits.
abbrev pub AreDigits : List ℕ → Type 0
AreDigits text = (length text ≡ 32) × (list_all is_hex text ≡ true)

-- The part's number and its tag's count of parts have 32 bits, and its tag has hex digits.
abbrev pub IsNamed : NamedPart → Type 0
IsNamed p = ((p.number < 2 ^ 32) × AreDigits p.tag.digits) × (p.tag.parts < 2 ^ 32)

-- The first of the pair has the first property, the second the second.
abbrev pub AreBoth : {A B : Type 0} → (A → Type 0) → (B → Type 0) → A × B → Type 0
AreBoth IsFirst IsSecond x = IsFirst x.0 × IsSecond x.1

-- The list has fewer than 2^32 values, and each has the property.
abbrev pub AreFew : {A : Type 0} → (A → Type 0) → List A → Type 0
AreFew IsOne xs = (length xs < 2 ^ 32) × AllByRecursion IsOne xs

-- A bucket and a key.
abbrev pub IsTarget : List ℕ × List ℕ → Type 0
IsTarget = AreBoth IsBucket IsKey

-- A bucket, a key and an upload's id of 64 bits.
abbrev pub IsUpload : (List ℕ × List ℕ) × ℕ → Type 0
IsUpload = AreBoth IsTarget (IsBelow (2 ^ 64))

-- A changing request whose names follow the rules and whose numbers fit their fields.
abbrev pub IsChange : Request → Type 0
IsChange (MakeBucket name) = IsText name
IsChange (PutObject bucket key bytes given) = IsTarget (bucket, key) × (header given < 2 ^ 64)
IsChange (DeleteObject bucket key) = IsTarget (bucket, key)
IsChange (DeleteObjects bucket keys) = IsBucket bucket × AreFew IsKey keys
IsChange (CopyObject bucket source target) = IsTarget (bucket, source) × IsKey target
IsChange (CreateUpload bucket key) = IsTarget (bucket, key)
IsChange (UploadPart bucket key upload number bytes) = IsUpload ((bucket, key), upload) × (number < 2 ^ 32)
IsChange (CompleteUpload bucket key upload parts) = IsUpload ((bucket, key), upload) × AreFew IsNamed parts
IsChange (AbortUpload bucket key upload) = IsUpload ((bucket, key), upload)
IsChange _ = ⊥
