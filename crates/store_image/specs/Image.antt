-- The one image of a store. All numbers are big-endian.
use Rattle.s3_types.specs.Store.{BucketContent, Content, Upload}
use Rattle.s3_types.specs.declared.object.Object.{Object}
use Rattle.std.specs.Int.{Width, to_be_bytes, w16, w64}
use Rattle.std.specs.List.{flat_map}
use Rattle.std.specs.Prelude.{List, None, Option, Some, codes, length, ℕ, ◌++◌, ◌+◌}
use Rattle.std.specs.declared.cmp.Ordering.{Ordering}
use Rattle.std.specs.FinMap as fin

-- A key or a name, after its length.
abbrev pub name : List ℕ → List ℕ
name text = to_be_bytes w16 (length text) ++ text

-- Bytes, after their length.
abbrev pub block : List ℕ → List ℕ
block bytes = to_be_bytes w64 (length bytes) ++ bytes

-- The entries of a map in the order of their keys, after their count.
abbrev pub counted : {K X : Type 0} {R : K → K → Ordering} → Width → (K × X → List ℕ) → fin.FinMap R X → List ℕ
counted w entry m = to_be_bytes w (fin.len m) ++ flat_map entry (fin.entries m)

-- The number of a length header: its length plus 1, or 0 for none.
abbrev pub header : Option ℕ → ℕ
header None = 0
header (Some n) = n + 1

-- An object, after its key.
abbrev pub object : List ℕ × Object → List ℕ
object e = name e.0 ++ to_be_bytes w64 (header e.1.header) ++ block e.1.bytes

-- A part, after its number.
abbrev pub part : ℕ × List ℕ → List ℕ
part e = to_be_bytes w16 e.0 ++ block e.1

-- An upload, after its id.
abbrev pub upload : ℕ × Upload → List ℕ
upload e = to_be_bytes w64 e.0 ++ name e.1.key ++ counted w16 part e.1.parts

-- A bucket, after its name.
abbrev pub bucket : List ℕ × BucketContent → List ℕ
bucket e = name e.0 ++ counted w64 object e.1.objects ++ counted w64 upload e.1.uploads

-- The first 8 bytes of an image.
abbrev pub magic : List ℕ
magic = codes "S3AIMG01"

-- The image of a store.
abbrev pub image : Content → List ℕ
image c = magic ++ to_be_bytes w64 c.minimum ++ to_be_bytes w64 c.next ++ counted w64 bucket c.buckets
