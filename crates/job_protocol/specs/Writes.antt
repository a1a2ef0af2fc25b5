-- An attempt's write of its files (Hadoop, S3A committer architecture: the magic committer writes delayed uploads, the staging committers
-- write local files).
use Rattle.job_model.specs.Attempts.{Who}
use Rattle.job_model.specs.Files.{File}
use Rattle.job_model.specs.JobScript.{Script}
use Rattle.job_model.specs.Known.{Known}
use Rattle.job_model.specs.declared.ends.TaskEnd.{TaskEnd}
use Rattle.job_protocol.specs.Knowledge.{drawn_last}
use Rattle.job_protocol.specs.Outputs.{files}
use Rattle.job_protocol.specs.Records.{file_key, marker_key, record_key, record_text}
use Rattle.job_protocol.specs.Uploading.{AllSent, Creating, GoesOn, IsGone, Uploaded, Uploading, upload_asks, upload_hears}
use Rattle.retries.specs.Retries.{Got, Item, OutOfMemory, WornOut}
use Rattle.s3_types.specs.declared.reply.Reply.{Reply}
use Rattle.s3_types.specs.declared.request.Committer.{Committer}
use Rattle.s3_types.specs.declared.request.Committer.TheVariants.{Magic}
use Rattle.s3_types.specs.declared.request.Request.{Request}
use Rattle.s3_types.specs.declared.request.Request.TheVariants.{PutObject}
use Rattle.std.specs.Prelude.{List, None, Option, Some, length, ℕ, [], ◌∷◌}
use Rattle.job_model.specs.declared.ends.TaskEnd.TheVariants as ends

-- How far a write has come.
pub data Write : Type 0 where
  -- uploads this file; the others follow
  Uploads : (file : File) (others : List File) (uploading : Uploading) → Write
  -- puts the file's marker, whose header has the file's length
  Marking : (file : File) (others : List File) → Write
  -- puts the file's record
  Recording : (file : File) (others : List File) → Write
  WriteOver : (end : TaskEnd) → Write

-- The upload of the next file. After the last one the write is Done.
abbrev pub writing : List File → Write
writing [] = WriteOver ends.Done
writing (f ∷ fs) = Uploads f fs Creating

-- The start of a write. The staging committers keep their files locally and send nothing.
abbrev pub write_start_by : Committer → List File → Write
write_start_by Magic fs = writing fs
write_start_by _ fs = WriteOver ends.Done

-- The start of a write.
abbrev pub write_start : Script → Who → Write
write_start w a = write_start_by w.committer (files w a)

-- The next request of a write, or none if it is over.
abbrev pub write_asks : Script → Who → Known → Write → Option Request
write_asks w a k (Uploads f fs u) = Some (upload_asks w k f u)
write_asks w a k (Marking f fs) = Some (PutObject w.dest.bucket (marker_key w a f) [] (Some (length f.1)))
write_asks w a k (Recording f fs) = Some (PutObject w.dest.bucket (record_key w a f) (record_text w a f (drawn_last k)) None)
write_asks w a k (WriteOver end) = None

-- The write after a reply to a file's upload.
abbrev pub uploaded : Script → File → List File → Uploaded → Write
uploaded w f fs (GoesOn u) = Uploads f fs u
uploaded w f fs AllSent = Marking f fs
uploaded w f fs IsGone = WriteOver (ends.Gone (file_key w f))

-- The write after a reply.
abbrev pub write_hears : Script → ℕ → Write → Reply → Write
write_hears w minimum (Uploads f fs u) r = uploaded w f fs (upload_hears w minimum f u r)
write_hears w minimum (Marking f fs) r = Recording f fs
write_hears w minimum (Recording f fs) r = writing fs
write_hears w minimum (WriteOver end) r = WriteOver end

-- How a write ended, if it is over.
abbrev pub write_over : Write → Option TaskEnd
write_over (WriteOver end) = Some end
write_over _ = None

-- The write after a reply, after a request that ran out of retries, or after memory ran out.
abbrev pub write_after : Script → ℕ → Write → Item → Write
write_after w minimum t (Got r repeated) = write_hears w minimum t r
write_after w minimum t WornOut = WriteOver ends.StoreFault
write_after w minimum t OutOfMemory = WriteOver ends.NoMemory
