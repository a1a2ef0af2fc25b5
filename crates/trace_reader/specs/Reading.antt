-- Reading a line of a trace: the first fault in the order of the checks, or the line's contents.
use Rattle.std.specs.Prelude.{ℕ, ◌&&◌, nat_lt, nat_le, List, [], ◌∷◌, length, Bool, true, false, Option, Some, None, Result, Ok, Err}
use Rattle.std.specs.Prelude.{codes, option_and_then, cond}
use Rattle.std.specs.List.{list_all}
use Rattle.std.specs.Str.{bytes_eq, is_utf8}
use Rattle.text_and_lists.specs.Parts.{parts_of}
use Rattle.text_and_lists.specs.Reading.{check, need, ◌>>=◌}
use Rattle.serde_json.specs.Data.{Data}
use Rattle.serde_json.specs.Find.{as_array, as_bool, as_object, as_str, get}
use Rattle.serde_json.specs.Read as json
use Rattle.soundness.specs.Paths.{is_visible}
use Rattle.soundness.specs.declared.keeps.Keeps.{Keeps}
use Rattle.soundness.specs.declared.keeps.Keeps.TheVariants.{Everything, Partitions, Nothing}
use Rattle.path_keys.specs.Paths.{Path, path_in}
use Rattle.path_keys.specs.declared.fault.PathFault.{PathFault}
use Rattle.pending_json.specs.Fields.{all_of, as_texts, as_u32, kept}
use Rattle.trace_reader.specs.declared.fault.Field.{Field}
use Rattle.trace_reader.specs.declared.fault.Field.TheVariants as field
use Rattle.trace_reader.specs.declared.fault.TraceFault.{TraceFault}
use Rattle.trace_reader.specs.declared.fault.TraceFault.TheVariants.{TooLong, NotJson, MissingField, WrongKind, UnknownOp, OutOfOrder}
use Rattle.trace_reader.specs.declared.line.TraceLine.{TraceLine}
use Rattle.trace_reader.specs.declared.line.TraceLine.TheVariants as line
use Rattle.trace_reader.specs.declared.operation.Operation.{Operation}
use Rattle.trace_reader.specs.declared.operation.Operation.TheVariants as op
use Rattle.trace_reader.specs.declared.stage.TraceStage.{TraceStage}
use Rattle.trace_reader.specs.Operations.{may_come, operation_of}

-- The most bytes of a line, without its line feed.
abbrev pub MOST_BYTES : ℕ
MOST_BYTES = 8388608

-- The name of a member.
abbrev pub name_of : Field → List ℕ
name_of field.Op = codes "op"
name_of field.Dest = codes "dest"
name_of field.Keeps = codes "keeps"
name_of field.Tasks = codes "tasks"
name_of field.Task = codes "task"
name_of field.Attempt = codes "attempt"
name_of field.Path = codes "path"
name_of field.Etags = codes "etags"
name_of field.Bucket = codes "bucket"
name_of field.Effect = codes "effect"
name_of field.Key = codes "key"
name_of field.Etag = codes "etag"
name_of field.Source = codes "source"
name_of field.Keys = codes "keys"
name_of field.Parts = codes "parts"

-- ---- the kinds of members

-- The path of a destination, which has a key.
abbrev pub below_bucket : Result Path PathFault → Option Path
below_bucket (Ok path) = cond (nat_lt 0 (length path.key)) (Some path) None
below_bucket (Err fault) = None

-- A destination: a path `s3a://BUCKET/KEY`.
abbrev pub as_dest : Data → Option Path
as_dest d = option_and_then (λ text. below_bucket (path_in text)) (as_str d)

-- Which opening files the job keeps, by this word.
abbrev pub keeps_of : List ℕ → Option Keeps
keeps_of word =
    cond (bytes_eq word (codes "all")) (Some Everything)
    (cond (bytes_eq word (codes "none")) (Some Nothing)
    (cond (bytes_eq word (codes "partitions")) (Some Partitions) None))

-- Which opening files the job keeps.
abbrev pub as_keeps : Data → Option Keeps
as_keeps d = option_and_then keeps_of (as_str d)

-- A task's number, which is below the number of tasks.
abbrev pub as_task : Option ℕ → Data → Option ℕ
as_task None d = None
as_task (Some tasks) d = option_and_then (kept (λ n. nat_lt n tasks)) (as_u32 d)

-- An element of a path that is not empty.
abbrev pub is_some_text : List ℕ → Bool
is_some_text element = nat_lt 0 (length element)

-- Readers see a file at this path, and no element of it is empty.
abbrev pub is_file_path : List ℕ → Bool
is_file_path path = is_visible path && list_all is_some_text (parts_of 47 path)

-- A file's path below the destination.
abbrev pub as_file_path : Data → Option (List ℕ)
as_file_path d = option_and_then (kept is_file_path) (as_str d)

-- The tag of a part that a completion names.
abbrev pub as_part : Data → Option (List ℕ)
as_part d = option_and_then as_str (get (codes "etag") d)

-- The tags of the parts that a completion names. There is at least one.
abbrev pub as_parts : Data → Option (List (List ℕ))
as_parts d = option_and_then (λ ds. option_and_then (kept (λ tags. nat_lt 0 (length tags))) (all_of as_part ds)) (as_array d)

-- ---- a line

-- A member of this kind.
abbrev pub of_kind : {A : Type 0} → Field → Option A → Result A TraceFault
of_kind f x = need x (WrongKind f)

-- A member that exists and is of its kind.
abbrev pub member : {A : Type 0} → (Data → Option A) → Field → Data → Result A TraceFault
member kind f d = need (get (name_of f) d) (MissingField f) >>= λ x. of_kind f (kind x)

-- The line of a job.
unfoldable pub job_in : Data → Result TraceLine TraceFault
job_in d = do
  dest ← member as_dest field.Dest d
  keeps ← member as_keeps field.Keeps d
  tasks ← member as_u32 field.Tasks d
  Ok (line.Job dest keeps tasks)

-- The line of an attempt of a job with this number of tasks.
unfoldable pub attempt_in : Option ℕ → Data → Result TraceLine TraceFault
attempt_in tasks d = do
  task ← member (as_task tasks) field.Task d
  attempt ← member as_u32 field.Attempt d
  Ok (line.Attempt task attempt)

-- The line of a file.
unfoldable pub file_in : Data → Result TraceLine TraceFault
file_in d = do
  path ← member as_file_path field.Path d
  etags ← member as_texts field.Etags d
  Ok (line.File path etags)

-- The line of an opening object.
unfoldable pub object_in : Data → Result TraceLine TraceFault
object_in d = do
  bucket ← member as_str field.Bucket d
  key ← member as_str field.Key d
  etags ← member as_texts field.Etags d
  Ok (line.Object bucket key etags)

-- The change that a request makes, or no change if it took no effect.
abbrev pub if_effect : Bool → TraceLine → TraceLine
if_effect true change = change
if_effect false change = line.Still

-- A request to put an object.
unfoldable pub put_in : Data → Result TraceLine TraceFault
put_in d = do
  bucket ← member as_str field.Bucket d
  effect ← member as_bool field.Effect d
  key ← member as_str field.Key d
  etag ← member as_str field.Etag d
  Ok (if_effect effect (line.Put bucket key (etag ∷ [])))

-- A request to copy an object.
unfoldable pub copy_in : Data → Result TraceLine TraceFault
copy_in d = do
  bucket ← member as_str field.Bucket d
  effect ← member as_bool field.Effect d
  source ← member as_str field.Source d
  key ← member as_str field.Key d
  Ok (if_effect effect (line.Copy bucket source key))

-- A request to delete an object.
unfoldable pub delete_in : Data → Result TraceLine TraceFault
delete_in d = do
  bucket ← member as_str field.Bucket d
  effect ← member as_bool field.Effect d
  key ← member as_str field.Key d
  Ok (if_effect effect (line.Delete bucket (key ∷ [])))

-- A request to delete objects.
unfoldable pub delete_all_in : Data → Result TraceLine TraceFault
delete_all_in d = do
  bucket ← member as_str field.Bucket d
  effect ← member as_bool field.Effect d
  keys ← member as_texts field.Keys d
  Ok (if_effect effect (line.Delete bucket keys))

-- A request to complete an upload.
unfoldable pub complete_in : Data → Result TraceLine TraceFault
complete_in d = do
  bucket ← member as_str field.Bucket d
  effect ← member as_bool field.Effect d
  key ← member as_str field.Key d
  parts ← member as_parts field.Parts d
  Ok (if_effect effect (line.Put bucket key parts))

-- The contents of a line of this operation, in a job with this number of tasks.
abbrev pub said_by : Option ℕ → Operation → Data → Result TraceLine TraceFault
said_by tasks op.Job d = job_in d
said_by tasks op.Attempt d = attempt_in tasks d
said_by tasks op.File d = file_in d
said_by tasks op.Object d = object_in d
said_by tasks op.Commit d = Ok line.Commit
said_by tasks op.PutObject d = put_in d
said_by tasks op.CopyObject d = copy_in d
said_by tasks op.DeleteObject d = delete_in d
said_by tasks op.DeleteObjects d = delete_all_in d
said_by tasks op.CompleteMultipartUpload d = complete_in d
said_by tasks op.Other d = Ok line.Still

-- The JSON tree of these bytes, if serde_json reads one.
abbrev pub tree_of : List ℕ → Option Data
tree_of bytes = cond (is_utf8 bytes) (json.read bytes) None

-- The operation of a line, which may come at this stage.
abbrev pub turn_in : TraceStage → Data → Result Operation TraceFault
turn_in stage d = do
  members ← need (as_object d) NotJson
  name ← member as_str field.Op d
  operation ← need (operation_of name) UnknownOp
  turn ← check (may_come stage operation) OutOfOrder
  Ok operation

-- The contents of a JSON tree at this stage of its trace.
abbrev pub line_in : TraceStage → Data → Result TraceLine TraceFault
line_in stage d = turn_in stage d >>= λ operation. said_by stage.tasks operation d

-- The contents of a line, without its line feed, at this stage of its trace.
unfoldable pub line_of : TraceStage → List ℕ → Result TraceLine TraceFault
line_of stage bytes = do
  fits ← check (nat_le (length bytes) MOST_BYTES) TooLong
  d ← need (tree_of bytes) NotJson
  line_in stage d
