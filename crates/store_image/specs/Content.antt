-- The conditions on a content that can have an image.
use Rattle.s3_types.specs.Multipart.{is_part_number}
use Rattle.s3_types.specs.Names.{is_bucket, is_key}
use Rattle.s3_types.specs.Store.{BucketContent, Content, Upload}
use Rattle.s3_types.specs.declared.limits.TheConstants.{MOST_MINIMUM}
use Rattle.s3_types.specs.declared.object.Object.{Object}
use Rattle.std.specs.List.{AllByRecursion}
use Rattle.std.specs.Prelude.{Bool, List, nat_le, nat_lt, true, ℕ, ◌&&◌, ◌<◌, ◌^◌, ◌≡◌}
use Rattle.std.specs.declared.cmp.Ordering.{Ordering}
use Rattle.store_image.specs.Image.{header}
use Rattle.std.specs.FinMap as fin

-- True if the least part size is 1 to 5,242,880.
abbrev pub is_minimum : ℕ → Bool
is_minimum n = nat_le 1 n && nat_le n MOST_MINIMUM

-- True if the counter is 1 to 2^62.
abbrev pub is_counter : ℕ → Bool
is_counter n = nat_le 1 n && nat_le n (2 ^ 62)

-- True if an upload's id is at least 1 and below the counter.
abbrev pub is_id : ℕ → ℕ → Bool
is_id next n = nat_le 1 n && nat_lt n next

-- The entry's key passes the test, and its value has the property.
pub record IsEntry {K X : Type 0} (is_key : K → Bool) (IsValue : X → Type 0) (e : K × X) : Type 0 where
  pub key : is_key e.0 ≡ true
  pub value : IsValue e.1

-- Each entry of the map is such an entry.
abbrev pub AreEntries : {K X : Type 0} {R : K → K → Ordering} → (K → Bool) → (X → Type 0) → fin.FinMap R X → Type 0
AreEntries is_key IsValue m = AllByRecursion (IsEntry is_key IsValue) (fin.entries m)

-- The number of the object's header fits in its field.
pub record IsObject (o : Object) : Type 0 where
  pub header_fits : header o.header < 2 ^ 64

-- Any bytes can be a part's.
abbrev pub IsPart : List ℕ → Type 0
IsPart bytes = Unit {0}

-- The upload has a valid key, and its parts are numbered from 1 to 10,000.
pub record IsUpload (u : Upload) : Type 0 where
  pub key : is_key u.key ≡ true
  pub parts : AreEntries is_part_number IsPart u.parts

-- The bucket's objects have valid keys, and its uploads have ids below the counter.
pub record IsBucket (next : ℕ) (b : BucketContent) : Type 0 where
  pub objects : AreEntries is_key IsObject b.objects
  pub uploads : AreEntries (is_id next) IsUpload b.uploads

-- A content that can have an image.
pub record IsContent (c : Content) : Type 0 where
  pub minimum : is_minimum c.minimum ≡ true
  pub counter : is_counter c.next ≡ true
  pub buckets : AreEntries is_bucket (IsBucket c.next) c.buckets
