-- How a file becomes a multipart upload that is not completed (Amazon S3 API: CreateMultipartUpload, UploadPart).
use Rattle.job_model.specs.Files.{File}
use Rattle.job_model.specs.JobScript.{Script}
use Rattle.job_model.specs.Known.{Known}
use Rattle.job_protocol.specs.Knowledge.{drawn_last}
use Rattle.job_protocol.specs.Records.{file_key}
use Rattle.s3_types.specs.Blocks.{block_of, parts_of}
use Rattle.s3_types.specs.declared.reply.Refusal.TheVariants.{NoSuchUpload}
use Rattle.s3_types.specs.declared.reply.Reply.{Reply}
use Rattle.s3_types.specs.declared.reply.Reply.TheVariants.{Refused, Upload}
use Rattle.s3_types.specs.declared.request.Request.{Request}
use Rattle.s3_types.specs.declared.request.Request.TheVariants.{CreateUpload, UploadPart}
use Rattle.std.specs.Prelude.{List, length, ℕ, [], ◌+◌, ◌∷◌}

-- How far the upload of a file has come.
pub data Uploading : Type 0 where
  -- creates the upload
  Creating : Uploading
  -- sends this part; the other parts follow
  Sending : (part : List ℕ) (parts : List (List ℕ)) → Uploading

-- The upload after a reply.
pub data Uploaded : Type 0 where
  GoesOn : (uploading : Uploading) → Uploaded
  -- all its parts exist
  AllSent : Uploaded
  -- the upload does not exist
  IsGone : Uploaded

-- The next request of a file's upload.
abbrev pub upload_asks : Script → Known → File → Uploading → Request
upload_asks w k f Creating = CreateUpload w.dest.bucket (file_key w f)
upload_asks w k f (Sending p ps) = UploadPart w.dest.bucket (file_key w f) (drawn_last k).upload (length (drawn_last k).tags + 1) p

-- The parts into which a file is cut, where the store has this minimum size of a part.
abbrev pub file_parts : Script → ℕ → File → List (List ℕ)
file_parts w minimum f = parts_of (block_of (length f.1) w.block minimum) f.1

-- The next of these parts, or the end after the last one.
abbrev pub sending : List (List ℕ) → Uploaded
sending [] = AllSent
sending (p ∷ ps) = GoesOn (Sending p ps)

-- The upload after the reply to CreateUpload.
abbrev pub created : Script → ℕ → File → Reply → Uploaded
created w minimum f (Upload id) = sending (file_parts w minimum f)
created w minimum f _ = GoesOn Creating

-- The upload after the reply to UploadPart: NoSuchUpload means that it is gone.
abbrev pub sent_part : List (List ℕ) → Reply → Uploaded
sent_part ps (Refused NoSuchUpload) = IsGone
sent_part ps _ = sending ps

-- The upload after a reply.
abbrev pub upload_hears : Script → ℕ → File → Uploading → Reply → Uploaded
upload_hears w minimum f Creating r = created w minimum f r
upload_hears w minimum f (Sending p ps) r = sent_part ps r
