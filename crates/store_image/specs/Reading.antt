-- Reading an image from left to right, up to the first fault. The place of a field is the number of bytes before it; it is computed from
-- the length of the whole.
use Rattle.text_and_lists.specs.Order.{text_cmp}
use Rattle.text_and_lists.specs.Reading.{made, passing, ◌>>=◌}
use Rattle.s3_types.specs.Multipart.{is_part_number}
use Rattle.s3_types.specs.Names.{is_bucket, is_key}
use Rattle.s3_types.specs.Store.{BucketContent, Content, Parts, Upload}
use Rattle.s3_types.specs.declared.object.Object.{Object}
use Rattle.std.specs.Int.{Width, byte_len, from_be_bytes, w16, w64}
use Rattle.std.specs.Ordering.{is_lt, nat_cmp}
use Rattle.std.specs.Prelude.{Bool, Err, List, None, Ok, Option, Result, Some, bytes_eq, drop, if◌then◌else◌, length, nat_lt, suc, take}
use Rattle.std.specs.Prelude.{true, zero, ℕ, [], ◌-◌, ◌==◌, ◌∷◌}
use Rattle.std.specs.declared.cmp.Ordering.{Ordering}
use Rattle.store_image.specs.Content.{is_counter, is_id, is_minimum}
use Rattle.store_image.specs.Image.{magic}
use Rattle.store_image.specs.declared.fault.ImageFault.{ImageFault}
use Rattle.store_image.specs.declared.fault.ImageFault.TheVariants.{BadHead, BadName, BadOrder, CounterTooHigh, Short, Trailing}
use Rattle.std.specs.FinMap as fin
use Rattle.text_and_lists.specs.Reading as reading

-- A value with the bytes that are left after it, or a fault.
abbrev pub Read : Type 0 → Type 0
Read A = reading.Read ImageFault A

-- The place where the rest begins, in bytes from the start of the whole.
abbrev pub place : ℕ → List ℕ → ℕ
place whole rest = whole - length rest

-- The next n bytes, which are one field, or a fault.
unfoldable pub bytes_at : ℕ → ℕ → List ℕ → Read (List ℕ)
bytes_at whole n bytes = if nat_lt (length bytes) n then Err (Short (place whole bytes)) else Ok (take n bytes, drop n bytes)

-- The next number.
unfoldable pub number_at : Width → ℕ → List ℕ → Read ℕ
number_at w whole bytes = made (from_be_bytes w) (bytes_at whole (byte_len w) bytes)

-- Bytes, after their length.
unfoldable pub block_at : Width → ℕ → List ℕ → Read (List ℕ)
block_at w whole bytes = do
  n ← number_at w whole bytes
  bytes_at whole n.0 n.1

-- True if a key is greater than the one before it in its list, if there is one.
abbrev pub is_after : {K : Type 0} → (K → K → Ordering) → Option K → K → Bool
is_after R None k = true
is_after R (Some before) k = is_lt (R before k)

-- A name of this kind, greater than the one before it.
unfoldable pub name_at : (List ℕ → Bool) → ℕ → Option (List ℕ) → List ℕ → Read (List ℕ)
name_at is_name whole last bytes = do
  text ← block_at w16 whole bytes
  name ← passing is_name (BadName (place whole bytes)) text
  passing (is_after text_cmp last) (BadOrder (place whole bytes)) name

-- An upload's id, greater than the one before it and below the counter.
unfoldable pub id_at : ℕ → ℕ → Option ℕ → List ℕ → Read ℕ
id_at next whole last bytes = do
  n ← number_at w64 whole bytes
  id ← passing (is_after nat_cmp last) (BadOrder (place whole bytes)) n
  passing (is_id next) CounterTooHigh id

-- A part's number, greater than the one before it.
unfoldable pub part_number_at : ℕ → Option ℕ → List ℕ → Read ℕ
part_number_at whole last bytes = do
  n ← number_at w16 whole bytes
  part ← passing (is_after nat_cmp last) (BadOrder (place whole bytes)) n
  passing is_part_number (BadOrder (place whole bytes)) part

-- So many entries, each key greater than the one before it.
unfoldable pub rising_at : {K X : Type 0} → (Option K → List ℕ → Read K) → (List ℕ → Read X) → ℕ → Option K → List ℕ → Read (List (K × X))
rising_at key_at value_at zero last bytes = Ok ([], bytes)
rising_at key_at value_at (suc n) last bytes = do
  key ← key_at last bytes
  value ← value_at key.1
  others ← rising_at key_at value_at n (Some key.0) value.1
  Ok ((key.0, value.0) ∷ others.0, others.1)

-- The map with these entries put into it.
abbrev pub with_entries : {K X : Type 0} {R : K → K → Ordering} → fin.FinMap R X → List (K × X) → fin.FinMap R X
with_entries m [] = m
with_entries m (e ∷ es) = with_entries (fin.insert m e.0 e.1) es

-- A map of so many entries.
unfoldable pub map_at : {K X : Type 0} {R : K → K → Ordering} → (Option K → List ℕ → Read K) → (List ℕ → Read X) → ℕ → List ℕ
    → Read (fin.FinMap R X)
map_at key_at value_at n bytes = made (with_entries fin.empty) (rising_at key_at value_at n None bytes)

-- A map, after its count.
unfoldable pub counted_at : {K X : Type 0} {R : K → K → Ordering} → Width → ℕ → (Option K → List ℕ → Read K) → (List ℕ → Read X) → List ℕ
    → Read (fin.FinMap R X)
counted_at w whole key_at value_at bytes = do
  n ← number_at w whole bytes
  map_at key_at value_at n.0 n.1

-- The length header of a number: None for 0, else the number minus 1.
abbrev pub header_in : ℕ → Option ℕ
header_in zero = None
header_in (suc n) = Some n

-- An object.
unfoldable pub object_at : ℕ → List ℕ → Read Object
object_at whole bytes = do
  n ← number_at w64 whole bytes
  b ← block_at w64 whole n.1
  Ok (record { bytes = b.0; header = header_in n.0 }, b.1)

-- Parts, by their numbers.
abbrev pub parts_at : ℕ → List ℕ → Read Parts
parts_at whole = counted_at w16 whole (part_number_at whole) (block_at w64 whole)

-- An upload.
unfoldable pub upload_at : ℕ → List ℕ → Read Upload
upload_at whole bytes = do
  key ← name_at is_key whole None bytes
  parts ← parts_at whole key.1
  Ok (record { key = key.0; parts = parts.0 }, parts.1)

-- The content of a bucket.
unfoldable pub bucket_at : ℕ → ℕ → List ℕ → Read BucketContent
bucket_at next whole bytes = do
  objects ← counted_at w64 whole (name_at is_key whole) (object_at whole) bytes
  uploads ← counted_at w64 whole (id_at next whole) (upload_at whole) objects.1
  Ok (record { objects = objects.0; uploads = uploads.0 }, uploads.1)

-- The first 8 bytes, the least part size and the counter.
unfoldable pub head_at : ℕ → List ℕ → Read (ℕ × ℕ)
head_at whole bytes = do
  b ← bytes_at whole 8 bytes
  first ← passing (λ h. bytes_eq h magic) BadHead b
  n ← number_at w64 whole first.1
  minimum ← passing is_minimum BadHead n
  m ← number_at w64 whole minimum.1
  counter ← passing is_counter CounterTooHigh m
  Ok ((minimum.0, counter.0), counter.1)

-- A store, and the bytes that are left after it.
unfoldable pub store_at : ℕ → List ℕ → Read Content
store_at whole bytes = do
  head ← head_at whole bytes
  buckets ← counted_at w64 whole (name_at is_bucket whole) (bucket_at head.0.1 whole) head.1
  Ok (record { buckets = buckets.0; next = head.0.1; minimum = head.0.0 }, buckets.1)

-- The content whose image the bytes are, or the first fault.
unfoldable pub content_in : List ℕ → Result Content ImageFault
content_in bytes = do
  store ← store_at (length bytes) bytes
  if length store.1 == 0 then Ok store.0 else Err (Trailing (place (length bytes) store.1))
