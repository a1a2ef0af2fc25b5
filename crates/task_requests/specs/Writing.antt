-- How a magic attempt writes its files: how many are complete, and how far the next one has come.
use Rattle.job_model.specs.Files.{File}
use Rattle.job_model.specs.JobScript.{Script}
use Rattle.job_model.specs.Jobs.{Task}
use Rattle.job_model.specs.Known.{Drawn, Known, with_last}
use Rattle.job_model.specs.Plans.{IsJob, IsPlaced, IsTask}
use Rattle.job_model.specs.declared.ends.TaskEnd.{TaskEnd}
use Rattle.job_protocol.specs.AtWork.{Attempting, task_script, who_of, write_wants}
use Rattle.job_protocol.specs.Knowledge.{drawn_last}
use Rattle.job_protocol.specs.Records.{file_key, marker_key}
use Rattle.job_protocol.specs.Uploading.{Creating, Sending, Uploading, file_parts}
use Rattle.job_protocol.specs.Writes.{Write}
use Rattle.path_keys.specs.Paths.{Path}
use Rattle.s3_types.specs.Blocks.{block_of, parts_of}
use Rattle.s3_types.specs.Store.{Scene}
use Rattle.s3_types.specs.Tags.{Spelled, is_plain_tag}
use Rattle.s3_types.specs.declared.limits.TheConstants.{MOST_SCRIPT_BYTES}
use Rattle.s3_types.specs.declared.reply.Refusal.TheVariants.{NoSuchUpload}
use Rattle.s3_types.specs.declared.reply.Reply.{Reply}
use Rattle.s3_types.specs.declared.reply.Reply.TheVariants.{Part, Refused, Upload}
use Rattle.s3_types.specs.declared.request.Request.{Request}
use Rattle.s3_types.specs.declared.request.Request.TheVariants.{PutObject, UploadPart}
use Rattle.std.specs.List.{list_all}
use Rattle.std.specs.Prelude.{Bool, List, None, Option, Some, cond, drop, length, map, nat_eq, nat_lt, not, take, true, ℕ, [], ◌*◌, ◌++◌}
use Rattle.std.specs.Prelude.{◌+◌, ◌<◌, ◌∷◌, ◌≡◌, ◌≤◌}
use Rattle.task_requests.specs.declared.stage.WriteStage.{WriteStage}
use Rattle.magic_paths.specs.Layout as layout
use Rattle.job_model.specs.declared.ends.TaskEnd.TheVariants as ends
use Rattle.job_protocol.specs.Writes as writes
use Rattle.task_requests.specs.declared.stage.WriteStage.TheVariants as stage

-- ---- how far a write has come

-- The write that still has to send these parts of file `f`, then the files `fs`.
abbrev pub at_parts : File → List File → List (List ℕ) → Write
at_parts f fs [] = writes.Marking f fs
at_parts f fs (p ∷ ps) = writes.Uploads f fs (Sending p ps)

-- The write whose first remaining file is at this stage; with no file left it has ended with Done.
abbrev pub at_stage : Script → ℕ → WriteStage → List File → Write
at_stage w minimum s [] = writes.WriteOver ends.Done
at_stage w minimum stage.Creating (f ∷ fs) = writes.Uploads f fs Creating
at_stage w minimum (stage.Sending n) (f ∷ fs) = at_parts f fs (drop n (file_parts w minimum f))
at_stage w minimum stage.Marking (f ∷ fs) = writes.Marking f fs
at_stage w minimum stage.Recording (f ∷ fs) = writes.Recording f fs

-- The write of a task after `place` complete files, or the write that ended so.
abbrev pub write_by : Task → ℕ → WriteStage → Option TaskEnd → Write
write_by t place s None = at_stage (task_script t) t.minimum s (drop place t.files)
write_by t place s (Some end) = writes.WriteOver end

-- A plan with its write, after `place` complete files and at this stage of the next.
abbrev pub seen_write : Task → ℕ → WriteStage → Option TaskEnd → Attempting Write
seen_write t place s end = record { plan = t; operation = write_by t place s end }

-- The stage after part n + 1 of `count` parts: the next part, or the marker after the last.
abbrev pub next_stage : ℕ → ℕ → WriteStage
next_stage n count = cond (nat_lt (n + 1) count) (stage.Sending (n + 1)) stage.Marking

-- ---- what is known of the newest upload

-- True if none of these uploads has the id.
abbrev pub is_new : ℕ → List Drawn → Bool
is_new id ds = list_all (λ d. not (nat_eq d.upload id)) ds

-- What is known after an upload was created with this key and id.
abbrev pub with_drawn : Known → List ℕ → ℕ → Known
with_drawn k key id = record {
  drawn = record { key = key; upload = id; tags = []; sizes = [] } ∷ k.drawn;
  put_sent = k.put_sent;
  publish_sent = k.publish_sent;
}

-- The newest upload has exactly these parts, plain tags, and an id that no older upload has.
abbrev pub HasSent : List Drawn → List (List ℕ) → Type 0
HasSent [] parts = ⊥
HasSent (d ∷ ds) parts = (is_new d.upload ds ≡ true) × (length d.tags ≡ length parts) × (d.sizes ≡ map length parts)
    × (list_all is_plain_tag d.tags ≡ true)

-- An upload with one more part.
abbrev pub one_more : Spelled → ℕ → Drawn → Drawn
one_more tag size d = record { key = d.key; upload = d.upload; tags = d.tags ++ tag ∷ []; sizes = d.sizes ++ size ∷ [] }

-- What is known after one more part of the newest upload was acknowledged.
abbrev pub with_tag : Known → Spelled → ℕ → Known
with_tag k tag size = record { drawn = with_last tag size k.drawn; put_sent = k.put_sent; publish_sent = k.publish_sent }

-- The newest upload has as many parts as the stage of the current file says.
abbrev pub HoldsAt : Script → ℕ → Known → WriteStage → List File → Type 0
HoldsAt w minimum k s [] = Unit {0}
HoldsAt w minimum k stage.Creating (f ∷ fs) = Unit {0}
HoldsAt w minimum k (stage.Sending n) (f ∷ fs) = (n < length (file_parts w minimum f)) × HasSent k.drawn (take n (file_parts w minimum f))
HoldsAt w minimum k stage.Marking (f ∷ fs) = HasSent k.drawn (file_parts w minimum f)
HoldsAt w minimum k stage.Recording (f ∷ fs) = HasSent k.drawn (file_parts w minimum f)

-- The newest upload has the parts that the attempt sent for its current file.
abbrev pub Holds : Task → ℕ → WriteStage → Type 0
Holds t place s = HoldsAt (task_script t) t.minimum t.known s (drop place t.files)

-- The directory of an attempt.
abbrev pub dir_of : Task → Path
dir_of t = record { bucket = t.job.dest.bucket; key = layout.attempt_key t.job.dest.key t.job.job t.task t.attempt }

-- A write that has not ended has a current file.
abbrev pub IsOpen : Option TaskEnd → ℕ → List File → Type 0
IsOpen None place fs = place < length fs
IsOpen (Some end) place fs = Unit {0}

-- What a machine keeps of a write; its pending request is the one that the write sends next.
pub record IsWrite (t : Task) (base : Path) (place : ℕ) (s : WriteStage) (end : Option TaskEnd) (request : Option Request) : Type 0 where
  pub dir : base ≡ dir_of t
  pub asked : request ≡ write_wants (seen_write t place s end)
  pub holds : Holds t place s
  pub within : IsOpen end place t.files

-- ---- which replies fit, and how many requests are left

-- A reply to CreateUpload: an id that none of the known uploads has.
abbrev pub FitsCreate : List Drawn → Reply → Type 0
FitsCreate ds (Upload id) = is_new id ds ≡ true
FitsCreate ds _ = ⊥

-- A reply to UploadPart: a plain tag, or that the upload does not exist.
abbrev pub FitsPart : Reply → Type 0
FitsPart (Part tag) = is_plain_tag tag ≡ true
FitsPart (Refused NoSuchUpload) = Unit {0}
FitsPart _ = ⊥

-- A reply that the upload of a file may receive.
abbrev pub FitsUpload : List Drawn → Uploading → Reply → Type 0
FitsUpload ds Creating r = FitsCreate ds r
FitsUpload ds (Sending p ps) r = FitsPart r

-- A reply that a write may receive.
abbrev pub FitsWrite : Known → Write → Reply → Type 0
FitsWrite k (writes.Uploads f fs u) r = FitsUpload k.drawn u r
FitsWrite k _ r = Unit {0}

-- A reply that a plan's write may receive.
abbrev pub write_fits : Attempting Write → Reply → Bool → Type 0
write_fits m r repeated = FitsWrite m.plan.known m.operation r

-- How many requests a file needs: its upload, its parts, its marker and its record.
abbrev pub file_left : Script → ℕ → File → ℕ
file_left w minimum f = 3 + length (file_parts w minimum f)

-- How many requests these files still need.
abbrev pub files_left : Script → ℕ → List File → ℕ
files_left w minimum [] = 0
files_left w minimum (f ∷ fs) = file_left w minimum f + files_left w minimum fs

-- How many requests the current file still needs while it is uploaded.
abbrev pub upload_left : Script → ℕ → File → Uploading → ℕ
upload_left w minimum f Creating = 3 + length (file_parts w minimum f)
upload_left w minimum f (Sending p ps) = 3 + length ps

-- How many requests a write still has to send.
abbrev pub left_of : Script → ℕ → Write → ℕ
left_of w minimum (writes.Uploads f fs u) = upload_left w minimum f u + files_left w minimum fs
left_of w minimum (writes.Marking f fs) = 2 + files_left w minimum fs
left_of w minimum (writes.Recording f fs) = 1 + files_left w minimum fs
left_of w minimum (writes.WriteOver end) = 0

-- How many requests a plan's write still has to send.
abbrev pub write_left : Attempting Write → Scene → ℕ
write_left m s = left_of (task_script m.plan) m.plan.minimum m.operation

-- ---- a file of the plan

-- A plan within its bounds, and a path that it may give a file.
pub record IsNamed (t : Task) (path : List ℕ) : Type 0 where
  pub job : IsJob t.job
  pub task : IsTask t
  pub placed : IsPlaced t.job.job path

-- A file that a plan may have: an allowed path, and a length within the limit of scripts.
pub record IsFile (t : Task) (f : File) : Type 0 where
  pub named : IsNamed t f.0
  pub short : length f.1 ≤ MOST_SCRIPT_BYTES

-- The part size in bytes that a task uses for these bytes.
abbrev pub size_of : Task → List ℕ → ℕ
size_of t bytes = block_of (length bytes) t.block t.minimum

-- The part that follows `n` parts of a file.
abbrev pub part_behind : Task → List ℕ → ℕ → List ℕ
part_behind t bytes n = take (size_of t bytes) (drop (n * size_of t bytes) bytes)

-- How many parts the bytes are cut into.
abbrev pub count_of : Task → List ℕ → ℕ
count_of t bytes = length (parts_of (size_of t bytes) bytes)

-- The parts of a file.
abbrev pub parts_in : Task → File → List (List ℕ)
parts_in t f = file_parts (task_script t) t.minimum f

-- ---- what a reply says

-- The upload id in a reply, or None.
abbrev pub upload_in : Reply → Option ℕ
upload_in (Upload id) = Some id
upload_in _ = None

-- The part's tag in a reply, or None.
abbrev pub tag_in : Reply → Option Spelled
tag_in (Part tag) = Some tag
tag_in _ = None

-- ---- the request after a part

-- If the next request sends a part, the file has that part and the attempt knows an upload.
abbrev pub IsBehind : List (List ℕ) → List Drawn → WriteStage → Type 0
IsBehind parts ds (stage.Sending n) = (n < length parts) × (0 < length ds)
IsBehind parts ds _ = Unit {0}

-- The request after a part: the next part for the newest upload, or the put of the marker.
abbrev pub asks_behind : Task → File → WriteStage → Request
asks_behind t f (stage.Sending n) = UploadPart t.job.dest.bucket (file_key (task_script t) f) (drawn_last t.known).upload (n + 1)
    (part_behind t f.1 n)
asks_behind t f _ = PutObject t.job.dest.bucket (marker_key (task_script t) (who_of t) f) [] (Some (length f.1))
