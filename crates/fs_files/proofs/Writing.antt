-- How far a file is written, as proofs go through it stage by stage: the requests, and the results of replies.
use Rattle.block_stream.specs.Stream.{has_some, is_begun, one_if}
use Rattle.block_stream.specs.declared.stage.StreamStage.{StreamStage}
use Rattle.block_stream.specs.declared.stage.StreamStage.TheVariants.{Beginning, Completing, Putting, Sending}
use Rattle.fs_files.specs.code.Writing.{Writing}
use Rattle.s3_types.specs.Blocks.{named_from}
use Rattle.s3_types.specs.Tags.{Spelled}
use Rattle.s3_types.specs.declared.reply.Refusal.{Refusal}
use Rattle.s3_types.specs.declared.reply.Refusal.TheVariants.{NoSuchUpload}
use Rattle.s3_types.specs.declared.reply.Reply.{Reply}
use Rattle.s3_types.specs.declared.reply.Reply.TheVariants.{Completed, Part, Refused, Stored, Upload}
use Rattle.s3_types.specs.declared.request.Request.{Request}
use Rattle.s3_types.specs.declared.request.Request.TheVariants.{CompleteUpload, CreateUpload, PutObject, UploadPart}
use Rattle.std.specs.Option.{unwrap_or}
use Rattle.std.specs.Prelude.{Bool, List, None, Option, Some, drop, false, length, nat_lt, not, take, true, ℕ, [], ◌++◌, ◌+◌, ◌||◌, ◌∷◌}

-- Nothing was sent yet.
abbrev pub unsent : List ℕ → ℕ → List ℕ → Writing
unsent key block bytes = record { key = key; block = block; pending = bytes; upload = None; tags = []; count = 0 + length bytes }

-- ---- the requests

-- The first stage: a short file is put, and for a longer one an upload is begun.
abbrev pub first_stage : Bool → StreamStage
first_stage true = Putting
first_stage false = Beginning

-- A later stage: the next part is sent, or the upload is completed.
abbrev pub later_stage : Bool → StreamStage
later_stage true = Sending
later_stage false = Completing

-- True if fewer bytes than a block are written, by one put.
abbrev pub is_short : Writing → Bool
is_short w = nat_lt (length w.pending) w.block

-- True if a part is to be sent.
abbrev pub is_due : Writing → Bool
is_due w = has_some w.pending || not (has_some w.tags)

-- The stage, given the upload.
abbrev pub stage_by : Option ℕ → Writing → StreamStage
stage_by None w = first_stage (is_short w)
stage_by (Some id) w = later_stage (is_due w)

-- The stage of the writing.
abbrev pub stage_in : Writing → StreamStage
stage_in w = stage_by w.upload w

-- The id of its upload.
abbrev pub id_in : Writing → ℕ
id_in w = unwrap_or w.upload 0

-- The request of each stage.
abbrev pub asks_at : StreamStage → List ℕ → Writing → Request
asks_at Putting bucket w = PutObject bucket w.key w.pending None
asks_at Beginning bucket w = CreateUpload bucket w.key
asks_at Sending bucket w = UploadPart bucket w.key (id_in w) (length w.tags + 1) (take w.block w.pending)
asks_at _ bucket w = CompleteUpload bucket w.key (id_in w) (named_from 1 w.tags)

-- The next request of the writing.
abbrev pub asks : List ℕ → Writing → Request
asks bucket w = asks_at (stage_in w) bucket w

-- ---- the results of replies

-- The result of a reply: the file is complete, more is to be sent, or the store refused.
pub data Heard : Type 0 where
  Done : Heard
  On : (w : Writing) → Heard
  Refusing : Heard

-- The writing with this upload.
abbrev pub begun : Writing → ℕ → Writing
begun w id = record { key = w.key; block = w.block; pending = w.pending; upload = Some id; tags = w.tags; count = w.count }

-- The writing after the next part was answered.
abbrev pub parted : Writing → Spelled → Writing
parted w t =
    record { key = w.key; block = w.block; pending = drop w.block w.pending; upload = w.upload; tags = w.tags ++ t ∷ []; count = w.count }

-- The result of the reply to PutObject.
abbrev pub put_heard : Reply → Heard
put_heard (Stored t) = Done
put_heard _ = Refusing

-- The result of the reply to CreateUpload.
abbrev pub begin_heard : Writing → Reply → Heard
begin_heard w (Upload id) = On (begun w id)
begin_heard w _ = Refusing

-- The result of the reply to UploadPart.
abbrev pub send_heard : Writing → Reply → Heard
send_heard w (Part t) = On (parted w t)
send_heard w _ = Refusing

-- The result of a refusal: if the upload does not exist, a completion that was sent before has ended it.
abbrev pub refused : Bool → Refusal → Heard
refused true NoSuchUpload = Done
refused _ _ = Refusing

-- The result of the reply to CompleteUpload.
abbrev pub end_heard : Bool → Reply → Heard
end_heard repeated (Completed t) = Done
end_heard repeated (Refused r) = refused repeated r
end_heard repeated _ = Refusing

-- The result of a reply, at each stage.
abbrev pub heard_at : StreamStage → Writing → Reply → Bool → Heard
heard_at Putting w r repeated = put_heard r
heard_at Beginning w r repeated = begin_heard w r
heard_at Sending w r repeated = send_heard w r
heard_at _ w r repeated = end_heard repeated r

-- The result of a reply.
abbrev pub heard : Writing → Reply → Bool → Heard
heard w r repeated = heard_at (stage_in w) w r repeated

-- The most replies that are still to come.
abbrev pub left : Writing → ℕ
left w = length w.pending + (one_if (not (is_begun w.upload)) + one_if (not (has_some w.tags)))
