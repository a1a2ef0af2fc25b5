-- Reading a file from left to right, up to the first fault. Every fault within a record is reported at one place, that of the record's
-- length.
use Rattle.log_format.specs.Log.{magic}
use Rattle.log_format.specs.declared.fault.LogFault.{LogFault}
use Rattle.log_format.specs.declared.fault.LogFault.TheVariants.{Bad}
use Rattle.log_format.specs.declared.logged_store.LoggedStore.{LoggedStore}
use Rattle.s3_types.specs.Names.{is_bucket, is_key}
use Rattle.s3_types.specs.Tags.{is_hex}
use Rattle.s3_types.specs.declared.request.NamedPart.{NamedPart}
use Rattle.s3_types.specs.declared.request.Request.{Request}
use Rattle.s3_types.specs.declared.request.Request.TheVariants.{AbortUpload, CompleteUpload, CopyObject, CreateUpload, DeleteObject}
use Rattle.s3_types.specs.declared.request.Request.TheVariants.{DeleteObjects, MakeBucket, PutObject, UploadPart}
use Rattle.std.specs.Int.{Width, byte_len, from_be_bytes, w32, w64}
use Rattle.std.specs.List.{list_all}
use Rattle.std.specs.Prelude.{Bool, Err, List, None, Ok, Option, Result, Some, bytes_eq, drop, if◌then◌else◌, length, nat_lt, slice_index}
use Rattle.std.specs.Prelude.{suc, take, zero, ℕ, [], ◌-◌, ◌==◌, ◌∷◌}
use Rattle.std.specs.Str.{is_utf8}
use Rattle.text_and_lists.specs.Reading.{made, passing, ◌>>=◌}
use Rattle.text_and_lists.specs.Reading as reading

-- A value with the bytes that are left after it, or a fault.
abbrev pub Read : Type 0 → Type 0
Read A = reading.Read LogFault A

-- The place where the rest begins, in bytes from the start of the whole.
abbrev pub place : ℕ → List ℕ → ℕ
place whole rest = whole - length rest

-- The next n bytes, or a fault.
unfoldable pub bytes_at : ℕ → ℕ → List ℕ → Read (List ℕ)
bytes_at at n bytes = if nat_lt (length bytes) n then Err (Bad at) else Ok (take n bytes, drop n bytes)

-- The next byte.
unfoldable pub byte_at : ℕ → List ℕ → Read ℕ
byte_at at bytes = made (λ b. slice_index b 0) (bytes_at at 1 bytes)

-- The next number.
unfoldable pub number_at : Width → ℕ → List ℕ → Read ℕ
number_at w at bytes = made (from_be_bytes w) (bytes_at at (byte_len w) bytes)

-- Bytes, after their length.
unfoldable pub block_at : ℕ → List ℕ → Read (List ℕ)
block_at at bytes = do
  n ← number_at w64 at bytes
  bytes_at at n.0 n.1

-- A text of this kind, after its length.
unfoldable pub text_at : (List ℕ → Bool) → ℕ → List ℕ → Read (List ℕ)
text_at is_kind at bytes = do
  text ← block_at at bytes
  passing is_kind (Bad at) text

-- One value and then another.
unfoldable pub pair_at : {A B : Type 0} → (List ℕ → Read A) → (List ℕ → Read B) → List ℕ → Read (A × B)
pair_at first second bytes = do
  a ← first bytes
  b ← second a.1
  Ok ((a.0, b.0), b.1)

-- So many values, one after another.
unfoldable pub list_at : {A : Type 0} → (List ℕ → Read A) → ℕ → List ℕ → Read (List A)
list_at one zero bytes = Ok ([], bytes)
list_at one (suc n) bytes = do
  x ← one bytes
  xs ← list_at one n x.1
  Ok (x.0 ∷ xs.0, xs.1)

-- Values, after their count.
unfoldable pub counted_at : {A : Type 0} → (List ℕ → Read A) → ℕ → List ℕ → Read (List A)
counted_at one at bytes = do
  n ← number_at w32 at bytes
  list_at one n.0 n.1

-- The 32 digits of a tag.
unfoldable pub digits_at : ℕ → List ℕ → Read (List ℕ)
digits_at at bytes = do
  digits ← bytes_at at 32 bytes
  passing (list_all is_hex) (Bad at) digits

-- A part, from its number, the digits of its tag and the tag's count of parts.
abbrev pub named_of : (ℕ × List ℕ) × ℕ → NamedPart
named_of x = record { number = x.0.0; tag = record { digits = x.0.1; parts = x.1 } }

-- A named part.
unfoldable pub named_at : ℕ → List ℕ → Read NamedPart
named_at at bytes = made named_of (pair_at (pair_at (number_at w32 at) (digits_at at)) (number_at w32 at) bytes)

-- A bucket and a key.
unfoldable pub target_at : ℕ → List ℕ → Read (List ℕ × List ℕ)
target_at at bytes = pair_at (text_at is_bucket at) (text_at is_key at) bytes

-- A bucket, a key and the id of an upload.
unfoldable pub upload_at : ℕ → List ℕ → Read ((List ℕ × List ℕ) × ℕ)
upload_at at bytes = pair_at (target_at at) (number_at w64 at) bytes

-- The length header of a number: None for 0, else the number minus 1.
abbrev pub header_in : ℕ → Option ℕ
header_in zero = None
header_in (suc n) = Some n

-- What a function makes of the value that is read, if nothing is left after it; else a fault.
abbrev pub alone : {A B : Type 0} → (A → B) → ℕ → Read A → Result B LogFault
alone make at read = read >>= λ x. if length x.1 == 0 then Ok (make x.0) else Err (Bad at)

-- The request of the fields that are read, if nothing is left after them; else a fault.
unfoldable pub row_of : {A : Type 0} → (A → Request) → (List ℕ → Read A) → ℕ → List ℕ → Result Request LogFault
row_of make read at bytes = alone make at (read bytes)

-- The MakeBucket with these fields, or a fault.
unfoldable pub make_bucket_in : ℕ → List ℕ → Result Request LogFault
make_bucket_in at bytes = row_of MakeBucket (text_at is_utf8 at) at bytes

-- The PutObject with these fields, or a fault.
unfoldable pub put_object_in : ℕ → List ℕ → Result Request LogFault
put_object_in at bytes = row_of (λ x. PutObject x.0.0.0 x.0.0.1 x.1 (header_in x.0.1))
    (pair_at (pair_at (target_at at) (number_at w64 at)) (block_at at)) at bytes

-- The DeleteObject with these fields, or a fault.
unfoldable pub delete_object_in : ℕ → List ℕ → Result Request LogFault
delete_object_in at bytes = row_of (λ x. DeleteObject x.0 x.1) (target_at at) at bytes

-- The DeleteObjects with these fields, or a fault.
unfoldable pub delete_objects_in : ℕ → List ℕ → Result Request LogFault
delete_objects_in at bytes = row_of (λ x. DeleteObjects x.0 x.1) (pair_at (text_at is_bucket at) (counted_at (text_at is_key at) at)) at
    bytes

-- The CopyObject with these fields, or a fault.
unfoldable pub copy_object_in : ℕ → List ℕ → Result Request LogFault
copy_object_in at bytes = row_of (λ x. CopyObject x.0.0 x.0.1 x.1) (pair_at (target_at at) (text_at is_key at)) at bytes

-- The CreateUpload with these fields, or a fault.
unfoldable pub create_upload_in : ℕ → List ℕ → Result Request LogFault
create_upload_in at bytes = row_of (λ x. CreateUpload x.0 x.1) (target_at at) at bytes

-- The UploadPart with these fields, or a fault.
unfoldable pub upload_part_in : ℕ → List ℕ → Result Request LogFault
upload_part_in at bytes = row_of (λ x. UploadPart x.0.0.0.0 x.0.0.0.1 x.0.0.1 x.0.1 x.1)
    (pair_at (pair_at (upload_at at) (number_at w32 at)) (block_at at)) at bytes

-- The CompleteUpload with these fields, or a fault.
unfoldable pub complete_upload_in : ℕ → List ℕ → Result Request LogFault
complete_upload_in at bytes = row_of (λ x. CompleteUpload x.0.0.0 x.0.0.1 x.0.1 x.1) (pair_at (upload_at at) (counted_at (named_at at) at))
    at bytes

-- The AbortUpload with these fields, or a fault.
unfoldable pub abort_upload_in : ℕ → List ℕ → Result Request LogFault
abort_upload_in at bytes = row_of (λ x. AbortUpload x.0.0 x.0.1 x.1) (upload_at at) at bytes

-- The change of this kind with these fields, or a fault.
unfoldable pub kind_in : ℕ → ℕ → List ℕ → Result Request LogFault
kind_in at kind bytes =
    if kind == 1 then make_bucket_in at bytes
    else if kind == 2 then put_object_in at bytes
    else if kind == 3 then delete_object_in at bytes
    else if kind == 4 then delete_objects_in at bytes
    else if kind == 5 then copy_object_in at bytes
    else if kind == 6 then create_upload_in at bytes
    else if kind == 7 then upload_part_in at bytes
    else if kind == 8 then complete_upload_in at bytes
    else if kind == 9 then abort_upload_in at bytes
    else Err (Bad at)

-- The change that these bytes are, or a fault.
unfoldable pub change_in : ℕ → List ℕ → Result Request LogFault
change_in at bytes = do
  kind ← byte_at at bytes
  kind_in at kind.0 kind.1

-- A change, after its length.
unfoldable pub record_at : ℕ → List ℕ → Read Request
record_at at bytes = do
  text ← block_at at bytes
  change ← change_in at text.0
  Ok (change, text.1)

-- The changes up to the first gate that is not open. n bounds how many there can be; at n = 0 it is a fault.
unfoldable pub changes_at : ℕ → ℕ → List ℕ → Result (List Request) LogFault
changes_at zero whole bytes = Err (Bad (place whole bytes))
changes_at (suc n) whole bytes = do
  gate ← byte_at (place whole bytes) bytes
  if gate.0 == 1 then (record_at (place whole gate.1) gate.1 >>= λ change. changes_at n whole change.1 >>= λ changes. Ok
      (change.0 ∷ changes)) else Ok []

-- A base and the changes after it.
unfoldable pub logged_in : ℕ → List ℕ → Result LoggedStore LogFault
logged_in whole bytes = do
  base ← block_at 8 bytes
  changes ← changes_at (length base.1) whole base.1
  Ok (record { base = base.0; changes = changes })

-- True if a file begins as a log does.
abbrev pub is_log : List ℕ → Bool
is_log bytes = bytes_eq (take 8 bytes) magic

-- The base and changes in a file, or its first fault.
unfoldable pub held_in : List ℕ → Result LoggedStore LogFault
held_in bytes = if is_log bytes then logged_in (length bytes) (drop 8 bytes) else Ok (record { base = bytes; changes = [] })

-- How many bytes were read, or 0 if there was a fault.
abbrev pub length_of : Read (List ℕ) → ℕ
length_of (Ok x) = length x.0
length_of (Err fault) = 0

-- The length of a file's base. It is 0 if the base of a log runs past the end.
unfoldable pub base_length : List ℕ → ℕ
base_length bytes = if is_log bytes then length_of (block_at 8 (drop 8 bytes)) else length bytes
