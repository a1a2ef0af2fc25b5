-- Reading a JSON tree as a record. The result is the record, or the first fault in the order of the checks.
use Rattle.text_and_lists.specs.Reading.{need, ◌>>=◌}
use Rattle.pending_json.specs.Fields.{as_bucket, as_committer, as_key, as_tags, as_texts, as_u32, as_whole, as_word, field, is_one_of}
use Rattle.pending_json.specs.Fields.{is_sized, members_in, of_kind_if, only_fields, sizes_in, version_in}
use Rattle.pending_json.specs.Pending.{Pending}
use Rattle.pending_json.specs.declared.fault.RecordFault.{RecordFault}
use Rattle.pending_json.specs.declared.fault.RecordFault.TheVariants.{NotJson}
use Rattle.pending_json.specs.declared.records.PendingSet.{PendingSet}
use Rattle.pending_json.specs.declared.records.SuccessMark.{SuccessMark}
use Rattle.pending_json.specs.declared.table.Table.{Table}
use Rattle.serde_json.specs.Data.{Data, Items, item, no_items}
use Rattle.serde_json.specs.Find.{as_array, as_str, get}
use Rattle.std.specs.Prelude.{Bool, List, None, Ok, Option, Result, codes, false, if◌then◌else◌, length, true, ℕ, [], ◌∷◌}
use Rattle.std.specs.Str.{is_utf8}
use Rattle.serde_json.specs.Read as json
use Rattle.pending_json.specs.declared.table.Table.TheVariants as tables

-- The names of the fields of each kind of object.
abbrev pub field_names : Table → List (List ℕ)
field_names tables.Pending = codes "attempt" ∷ codes "bucket" ∷ codes "destination" ∷ codes "etags" ∷ codes "kind" ∷ codes "length" ∷ codes
    "task" ∷ codes "upload" ∷ codes "version" ∷ []
field_names tables.SizedPending = codes "attempt" ∷ codes "bucket" ∷ codes "destination" ∷ codes "etags" ∷ codes "kind" ∷ codes "length" ∷
    codes "sizes" ∷ codes "task" ∷ codes "upload" ∷ codes "version" ∷ []
field_names tables.Set = codes "attempt" ∷ codes "commits" ∷ codes "job" ∷ codes "kind" ∷ codes "task" ∷ codes "version" ∷ []
field_names tables.Success = codes "committer" ∷ codes "files" ∷ codes "job" ∷ codes "kind" ∷ codes "stamp" ∷ codes "version" ∷ []

-- True if a kind of object has a field of this name.
abbrev pub is_field_of : Table → List ℕ → Bool
is_field_of table name = is_one_of (field_names table) name

-- The kind of a pending upload with the lengths of its parts, if `true`, or without them.
abbrev pub pending_table : Bool → Table
pending_table false = tables.Pending
pending_table true = tables.SizedPending

-- The pending upload in a JSON tree, or its first fault.
unfoldable pub pending_in : Data → Result Pending RecordFault
pending_in d = do
  members ← members_in d
  sized ← is_sized d
  attempt ← field as_u32 (codes "attempt") d
  bucket ← field as_bucket (codes "bucket") d
  destination ← field as_key (codes "destination") d
  tags ← field as_tags (codes "etags") d
  kind ← field (as_word (codes "pending")) (codes "kind") d
  total ← field as_whole (codes "length") d
  sizes ← sizes_in sized (length tags) total d
  task ← field as_u32 (codes "task") d
  upload ← field as_whole (codes "upload") d
  others ← only_fields (is_field_of (pending_table sized)) members
  Ok (record {
    task = task;
    attempt = attempt;
    bucket = bucket;
    destination = destination;
    upload = upload;
    length = total;
    tags = tags;
    sizes = sizes;
  })

-- The pending uploads of a list, or the fault of the first faulty one.
unfoldable pub pendings_in : Items → Result (List Pending) RecordFault
pendings_in no_items = Ok []
pendings_in (item d ds) = do
  first ← pending_in d
  others ← pendings_in ds
  Ok (first ∷ others)

-- The set in a JSON tree, or its first fault.
unfoldable pub set_in : Data → Result PendingSet RecordFault
set_in d = do
  members ← members_in d
  version ← version_in d
  attempt ← field as_u32 (codes "attempt") d
  items ← field as_array (codes "commits") d
  commits ← pendings_in items
  job ← field as_str (codes "job") d
  kind ← field (as_word (codes "pendingset")) (codes "kind") d
  task ← field as_u32 (codes "task") d
  others ← only_fields (is_field_of tables.Set) members
  Ok (record { job = job; task = task; attempt = attempt; commits = commits })

-- The contents of `_SUCCESS` in a JSON tree, or its first fault.
unfoldable pub success_in : Data → Result SuccessMark RecordFault
success_in d = do
  members ← members_in d
  version ← version_in d
  committer ← field as_committer (codes "committer") d
  files ← field as_texts (codes "files") d
  job ← field as_str (codes "job") d
  kind ← field (as_word (codes "success")) (codes "kind") d
  stamp ← of_kind_if as_whole (codes "stamp") (get (codes "stamp") d)
  others ← only_fields (is_field_of tables.Success) members
  Ok (record { job = job; committer = committer; files = files; stamp = stamp })

-- The tree that serde_json reads from bytes, or none.
abbrev pub tree_read : List ℕ → Option Data
tree_read bytes = if is_utf8 bytes then json.read bytes else None

-- The tree, or NotJson if there is none.
abbrev pub parsed : Option Data → Result Data RecordFault
parsed tree = need tree NotJson

-- The pending upload in a text, or its first fault.
unfoldable pub pending_of : List ℕ → Result Pending RecordFault
pending_of bytes = do
  d ← parsed (tree_read bytes)
  pending_in d

-- The set in a text, or its first fault.
unfoldable pub set_of : List ℕ → Result PendingSet RecordFault
set_of bytes = do
  d ← parsed (tree_read bytes)
  set_in d

-- The contents of `_SUCCESS` in a text, or its first fault.
unfoldable pub success_of : List ℕ → Result SuccessMark RecordFault
success_of bytes = do
  d ← parsed (tree_read bytes)
  success_in d
