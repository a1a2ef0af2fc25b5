-- Reading a record in groups of fields, as the code does. Each group ends at its first fault. The result is the same as that of `Reading`.
use Rattle.text_and_lists.specs.Reading.{◌>>=◌}
use Rattle.pending_json.specs.Fields.{as_bucket, as_committer, as_key, as_tags, as_texts, as_u32, as_whole, as_word, field, is_sized}
use Rattle.pending_json.specs.Fields.{members_in, of_kind_if, only_fields, sizes_in, version_in}
use Rattle.pending_json.specs.Pending.{Pending}
use Rattle.pending_json.specs.Reading.{is_field_of, pending_table, pendings_in}
use Rattle.pending_json.specs.declared.fault.RecordFault.{RecordFault}
use Rattle.pending_json.specs.declared.groups.Numbers.{Numbers}
use Rattle.pending_json.specs.declared.groups.Parts.{Parts}
use Rattle.pending_json.specs.declared.groups.Target.{Target}
use Rattle.pending_json.specs.declared.records.PendingSet.{PendingSet}
use Rattle.pending_json.specs.declared.records.SuccessMark.{SuccessMark}
use Rattle.serde_json.specs.Data.{Data, Members}
use Rattle.serde_json.specs.Find.{as_array, as_str, get}
use Rattle.std.specs.Prelude.{Bool, List, Ok, Option, Result, codes, length, ℕ}
use Rattle.pending_json.specs.declared.table.Table.TheVariants as tables

-- The attempt of a pending upload, and the place of its file.
unfoldable pub target_in : Data → Result Target RecordFault
target_in d = do
  attempt ← field as_u32 (codes "attempt") d
  bucket ← field as_bucket (codes "bucket") d
  destination ← field as_key (codes "destination") d
  Ok (record { attempt = attempt; bucket = bucket; destination = destination })

-- The data that completes a pending upload.
unfoldable pub parts_in : Bool → Data → Result Parts RecordFault
parts_in sized d = do
  tags ← field as_tags (codes "etags") d
  kind ← field (as_word (codes "pending")) (codes "kind") d
  total ← field as_whole (codes "length") d
  sizes ← sizes_in sized (length tags) total d
  Ok (record { length = total; tags = tags; sizes = sizes })

-- The task and the id of a pending upload, which must have no other fields.
unfoldable pub numbers_in : Bool → Members → Data → Result Numbers RecordFault
numbers_in sized members d = do
  task ← field as_u32 (codes "task") d
  upload ← field as_whole (codes "upload") d
  others ← only_fields (is_field_of (pending_table sized)) members
  Ok (record { task = task; upload = upload })

-- The pending upload in a JSON tree, or its first fault.
unfoldable pub pending_by : Data → Result Pending RecordFault
pending_by d = do
  members ← members_in d
  sized ← is_sized d
  target ← target_in d
  parts ← parts_in sized d
  numbers ← numbers_in sized members d
  Ok (record {
    task = numbers.task;
    attempt = target.attempt;
    bucket = target.bucket;
    destination = target.destination;
    upload =
        numbers.upload;
    length = parts.length;
    tags = parts.tags;
    sizes = parts.sizes;
  })

-- The attempt of a set, whose version must be known.
unfoldable pub attempt_in : Data → Result ℕ RecordFault
attempt_in d = do
  version ← version_in d
  field as_u32 (codes "attempt") d

-- The pending uploads of a set.
unfoldable pub commits_in : Data → Result (List Pending) RecordFault
commits_in d = do
  items ← field as_array (codes "commits") d
  pendings_in items

-- The job and the task of a set, which must have no other fields.
unfoldable pub set_end_in : Members → Data → Result (List ℕ × ℕ) RecordFault
set_end_in members d = do
  job ← field as_str (codes "job") d
  kind ← field (as_word (codes "pendingset")) (codes "kind") d
  task ← field as_u32 (codes "task") d
  others ← only_fields (is_field_of tables.Set) members
  Ok (job, task)

-- The set in a JSON tree, or its first fault.
unfoldable pub set_by : Data → Result PendingSet RecordFault
set_by d = do
  members ← members_in d
  attempt ← attempt_in d
  commits ← commits_in d
  end ← set_end_in members d
  Ok (record { job = end.0; task = end.1; attempt = attempt; commits = commits })

-- The job and the stamp of `_SUCCESS`, which must have no other fields.
unfoldable pub mark_end_in : Members → Data → Result (List ℕ × Option ℕ) RecordFault
mark_end_in members d = do
  job ← field as_str (codes "job") d
  kind ← field (as_word (codes "success")) (codes "kind") d
  stamp ← of_kind_if as_whole (codes "stamp") (get (codes "stamp") d)
  others ← only_fields (is_field_of tables.Success) members
  Ok (job, stamp)

-- The contents of `_SUCCESS` in a JSON tree, or its first fault.
unfoldable pub success_by : Data → Result SuccessMark RecordFault
success_by d = do
  members ← members_in d
  version ← version_in d
  committer ← field as_committer (codes "committer") d
  files ← field as_texts (codes "files") d
  end ← mark_end_in members d
  Ok (record { job = end.0; committer = committer; files = files; stamp = end.1 })
