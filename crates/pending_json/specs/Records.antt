-- The bounds of records, and the bytes that spell one.
use Rattle.text_and_lists.specs.Order.{text_cmp}
use Rattle.pending_json.specs.Pending.{Pending, are_sizes, are_tags}
use Rattle.pending_json.specs.Reading.{is_field_of, tree_read}
use Rattle.pending_json.specs.declared.records.PendingSet.{PendingSet}
use Rattle.pending_json.specs.declared.records.SuccessMark.{SuccessMark}
use Rattle.pending_json.specs.declared.table.Table.{Table}
use Rattle.s3_types.specs.Names.{is_bucket, is_key}
use Rattle.serde_json.specs.Data.{Data}
use Rattle.serde_json.specs.Find.{get}
use Rattle.std.specs.List.{AllByRecursion}
use Rattle.std.specs.Ordering.{is_le}
use Rattle.std.specs.Prelude.{List, None, Option, Some, false, true, ℕ, ⊤, ◌<◌, ◌^◌, ◌≡◌}
use Rattle.std.specs.Str.{is_utf8}

-- Holds if the numbers, names, tags and lengths of a pending upload keep their bounds.
pub record IsPending (p : Pending) : Type 0 where
  pub task : p.task < 2 ^ 32
  pub attempt : p.attempt < 2 ^ 32
  pub bucket : is_bucket p.bucket ≡ true
  pub destination : is_key p.destination ≡ true
  pub upload : p.upload < 2 ^ 64
  pub length : p.length < 2 ^ 64
  pub tags : are_tags p.tags ≡ true
  pub sizes : are_sizes p.sizes p.tags p.length ≡ true

-- Holds if the numbers, the job's id and the uploads of a set keep their bounds.
pub record IsSet (s : PendingSet) : Type 0 where
  pub job : is_utf8 s.job ≡ true
  pub task : s.task < 2 ^ 32
  pub attempt : s.attempt < 2 ^ 32
  pub commits : AllByRecursion IsPending s.commits

-- Holds if the stamp is below 2^64, or if there is none.
abbrev pub IsStamp : Option ℕ → Type 0
IsStamp None = ⊤
IsStamp (Some stamp) = stamp < 2 ^ 64

-- Holds if the texts of `_SUCCESS` are UTF-8 and its stamp is below 2^64.
pub record IsMark (m : SuccessMark) : Type 0 where
  pub job : is_utf8 m.job ≡ true
  pub files : AllByRecursion (λ file. is_utf8 file ≡ true) m.files
  pub stamp : IsStamp m.stamp

-- Holds if the name is the least by its bytes of the object's fields that such records do not have.
pub record IsLeastOther (table : Table) (d : Data) (name : List ℕ) : Type 0 where
  pub value : Data
  pub there : get name d ≡ Some value
  pub other : is_field_of table name ≡ false
  pub least : (k : List ℕ) (v : Data) → get k d ≡ Some v → is_field_of table k ≡ false → is_le (text_cmp name k) ≡ true

-- Holds if the bytes spell the tree: serde_json reads it from them.
abbrev pub Spell : List ℕ → Data → Type 0
Spell bytes tree = tree_read bytes ≡ Some tree
