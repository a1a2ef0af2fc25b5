-- A block output stream, as a state that pieces, replies and the close change (Hadoop, S3A: fs.s3a.fast.upload, block output; Amazon S3
-- API: multipart upload).
use Rattle.block_stream.specs.declared.mode.StreamEnd.{StreamEnd}
use Rattle.block_stream.specs.declared.mode.StreamEnd.TheVariants.{Done, Gone, NoMemory, StoreFault}
use Rattle.block_stream.specs.declared.mode.StreamMode.{StreamMode}
use Rattle.block_stream.specs.declared.mode.StreamMode.TheVariants.{Delayed, Direct}
use Rattle.block_stream.specs.declared.stage.StreamStage.{StreamStage}
use Rattle.block_stream.specs.declared.stage.StreamStage.TheVariants.{Beginning, Completing, Over, Putting, Sending, Waiting}
use Rattle.machine.specs.Standing.{Broken, Faulted, Fine, Standing}
use Rattle.retries.specs.Retries.{Got, Item, OutOfMemory, WornOut}
use Rattle.s3_types.specs.Blocks.{named_from}
use Rattle.s3_types.specs.Tags.{Spelled}
use Rattle.s3_types.specs.declared.reply.Refusal.{Refusal}
use Rattle.s3_types.specs.declared.reply.Refusal.TheVariants.{NoSuchUpload}
use Rattle.s3_types.specs.declared.reply.Reply.{Reply}
use Rattle.s3_types.specs.declared.reply.Reply.TheVariants.{Completed, Part, Refused, Stored, Upload}
use Rattle.s3_types.specs.declared.request.Request.{Request}
use Rattle.s3_types.specs.declared.request.Request.TheVariants.{CompleteUpload, CreateUpload, PutObject, UploadPart}
use Rattle.std.specs.Option.{unwrap_or}
use Rattle.std.specs.Prelude.{Bool, List, None, Option, Some, cond, drop, false, length, nat_le, nat_lt, not, take, true, ℕ, [], ◌&&◌, ◌++◌}
use Rattle.std.specs.Prelude.{◌+◌, ◌||◌, ◌∷◌, ◌≡◌}

-- A block output stream.
pub record Stream : Type 0 where
  pub mode : StreamMode
  pub bucket : List ℕ
  pub key : List ℕ
  -- the length in bytes of each part but the last
  pub block : ℕ
  -- the bytes that were written and are in no part that was answered
  pub pending : List ℕ
  -- the upload, if it was begun
  pub upload : Option ℕ
  -- the tags of the parts that were answered, from the first on
  pub tags : List Spelled
  -- the number of bytes that were written
  pub count : ℕ
  pub closed : Bool
  pub end : Option StreamEnd

-- A stream to which nothing was written yet.
abbrev pub fresh : StreamMode → List ℕ → List ℕ → ℕ → Stream
fresh mode bucket key block = record {
  mode = mode;
  bucket = bucket;
  key = key;
  block = block;
  pending = [];
  upload = None;
  tags = [];
  count = 0;
  closed = false;
  end = None;
}

-- True if the stream's output is an object, and no pending upload.
abbrev pub is_direct : StreamMode → Bool
is_direct Direct = true
is_direct Delayed = false

-- True if the list is not empty.
abbrev pub has_some : {X : Type 0} → List X → Bool
has_some [] = false
has_some (x ∷ xs) = true

-- True if a part is to be sent: a whole block, or after the close what is left. If no part was sent yet, that may be empty.
abbrev pub has_part : Stream → Bool
has_part m = nat_le m.block (length m.pending) || (m.closed && (has_some m.pending || not (has_some m.tags)))

-- True for a closed direct output of fewer bytes than a block, which is one put.
abbrev pub is_small : Stream → Bool
is_small m = is_direct m.mode && (m.closed && nat_lt (length m.pending) m.block)

-- The stage of a stream without an upload: it begins one if a part is to be sent.
abbrev pub begin_or_wait : Bool → StreamStage
begin_or_wait true = Beginning
begin_or_wait false = Waiting

-- The stage of a stream with all parts sent: it completes the upload if it is closed.
abbrev pub complete_or_wait : Bool → StreamStage
complete_or_wait true = Completing
complete_or_wait false = Waiting

-- The stage, given the end and the upload.
abbrev pub stage_of : Option StreamEnd → Option ℕ → Stream → StreamStage
stage_of (Some e) u m = Over
stage_of None None m = cond (is_small m) Putting (begin_or_wait (has_part m))
stage_of None (Some id) m = cond (has_part m) Sending (complete_or_wait m.closed)

-- What the stream does next.
abbrev pub stage : Stream → StreamStage
stage m = stage_of m.end m.upload m

-- The bytes of the next part.
abbrev pub chunk : Stream → List ℕ
chunk m = take m.block m.pending

-- The id of the stream's upload.
abbrev pub id_of : Stream → ℕ
id_of m = unwrap_or m.upload 0

-- The request at a stage, with this upload, the tags of its parts and the next part.
abbrev pub asks_with : StreamStage → List ℕ → List ℕ → ℕ → List Spelled → List ℕ → Option Request
asks_with Putting bucket key id tags next = Some (PutObject bucket key next None)
asks_with Beginning bucket key id tags next = Some (CreateUpload bucket key)
asks_with Sending bucket key id tags next = Some (UploadPart bucket key id (length tags + 1) next)
asks_with Completing bucket key id tags next = Some (CompleteUpload bucket key id (named_from 1 tags))
asks_with _ bucket key id tags next = None

-- The request of a stream at a stage.
abbrev pub asks : StreamStage → Stream → Option Request
asks g m = asks_with g m.bucket m.key (id_of m) m.tags (chunk m)

-- The stream's next request, or None.
abbrev pub wanted : Stream → Option Request
wanted m = asks (stage m) m

-- ---- what changes a stream

-- The stream with this end.
abbrev pub ended : Stream → StreamEnd → Stream
ended m e = record {
  mode = m.mode;
  bucket = m.bucket;
  key = m.key;
  block = m.block;
  pending = m.pending;
  upload = m.upload;
  tags = m.tags;
  count = m.count;
  closed = m.closed;
  end = Some e;
}

-- True for a delayed output that is closed and has no part left to send. It is done, and is not completed.
abbrev pub is_settled : Stream → Bool
is_settled m = m.closed && (not (is_direct m.mode) && not (has_part m))

-- The stream, ended with Done if it is a delayed output with nothing left to send.
abbrev pub settled : Stream → Stream
settled m = cond (is_settled m) (ended m Done) m

-- The stream with this upload.
abbrev pub begun : Stream → ℕ → Stream
begun m id = record {
  mode = m.mode;
  bucket = m.bucket;
  key = m.key;
  block = m.block;
  pending = m.pending;
  upload = Some id;
  tags = m.tags;
  count = m.count;
  closed = m.closed;
  end = m.end;
}

-- The stream after the next part was answered with this tag.
abbrev pub parted : Stream → Spelled → Stream
parted m tag = record {
  mode = m.mode;
  bucket = m.bucket;
  key = m.key;
  block = m.block;
  pending = drop m.block m.pending;
  upload = m.upload;
  tags = m.tags ++ tag ∷ [];
  count = m.count;
  closed = m.closed;
  end = m.end;
}

-- The stream after a refusal. If the upload does not exist, the stream ends: with Done if a completion sent before may have taken effect
-- (`over`), else with Gone.
abbrev pub refused : Stream → Bool → Refusal → Stream
refused m over NoSuchUpload = ended m (cond over Done Gone)
refused m over _ = m

-- The stream after a reply.
abbrev pub told : StreamStage → Stream → Bool → Reply → Stream
told Putting m repeated (Stored tag) = ended m Done
told Beginning m repeated (Upload id) = begun m id
told Sending m repeated (Part tag) = settled (parted m tag)
told Sending m repeated (Refused r) = refused m false r
told Completing m repeated (Completed tag) = ended m Done
told Completing m repeated (Refused r) = refused m repeated r
told _ m repeated _ = m

-- The stream after memory ran out: it holds nothing any more.
abbrev pub broken : Stream → Stream
broken m = record {
  mode = m.mode;
  bucket = m.bucket;
  key = m.key;
  block = m.block;
  pending = [];
  upload = None;
  tags = [];
  count = m.count;
  closed = m.closed;
  end = Some NoMemory;
}

-- The stream after a reply, an exhausted request, or memory that ran out.
abbrev pub moved : Stream → Item → Stream
moved m (Got r repeated) = told (stage m) m repeated r
moved m WornOut = ended m StoreFault
moved m OutOfMemory = broken m

-- True if the refusal is NoSuchUpload.
abbrev pub is_no_upload : Refusal → Bool
is_no_upload NoSuchUpload = true
is_no_upload _ = false

-- True for the replies that answer the request of this stage.
abbrev pub answers : StreamStage → Reply → Bool
answers Putting (Stored tag) = true
answers Beginning (Upload id) = true
answers Sending (Part tag) = true
answers Sending (Refused r) = is_no_upload r
answers Completing (Completed tag) = true
answers Completing (Refused r) = is_no_upload r
answers _ _ = false

-- Holds if the stream may take this reply.
abbrev pub Fits : Stream → Reply → Bool → Type 0
Fits m r repeated = answers (stage m) r ≡ true

-- The pending bytes with a piece added. After the end the piece is only counted.
abbrev pub added : Option StreamEnd → List ℕ → List ℕ → List ℕ
added None pending piece = pending ++ piece
added (Some e) pending piece = pending

-- The stream after a piece was written.
abbrev pub wrote : Stream → List ℕ → Stream
wrote m piece = record {
  mode = m.mode;
  bucket = m.bucket;
  key = m.key;
  block = m.block;
  pending = added m.end m.pending piece;
  upload =
      m.upload;
  tags = m.tags;
  count = m.count + length piece;
  closed = m.closed;
  end = m.end;
}

-- The stream marked as closed, with the end that it had.
abbrev pub shut : Stream → Stream
shut m = record {
  mode = m.mode;
  bucket = m.bucket;
  key = m.key;
  block = m.block;
  pending = m.pending;
  upload = m.upload;
  tags = m.tags;
  count = m.count;
  closed = true;
  end = m.end;
}

-- The stream after the close, given the end that it had.
abbrev pub closed_by : Option StreamEnd → Stream → Stream
closed_by None m = settled (shut m)
closed_by (Some e) m = shut m

-- The stream after the close.
abbrev pub close : Stream → Stream
close m = closed_by m.end m

-- The end, which shows only after the close.
abbrev pub end_of : Stream → Option StreamEnd
end_of m = cond m.closed m.end None

-- The upload, the tags of its parts and the length of a delayed output that is done.
abbrev pub delayed_by : StreamMode → Option StreamEnd → Stream → Option (ℕ × List Spelled × ℕ)
delayed_by Delayed (Some Done) m = Some (id_of m, m.tags, m.count)
delayed_by _ _ m = None

-- The pending upload that a delayed output leaves after it is done.
abbrev pub delayed_of : Stream → Option (ℕ × List Spelled × ℕ)
delayed_of m = delayed_by m.mode (end_of m) m

-- ---- how many requests are left, and how the stream is doing

-- 1 for true, and 0 for false.
abbrev pub one_if : Bool → ℕ
one_if true = 1
one_if false = 0

-- True if the upload is begun.
abbrev pub is_begun : Option ℕ → Bool
is_begun None = false
is_begun (Some id) = true

-- The most replies and exhausted requests that are still to come if nothing more is written.
abbrev pub left_by : Option StreamEnd → Stream → ℕ
left_by None m = 1 + (length m.pending + (one_if (not (is_begun m.upload)) + one_if (not (has_some m.tags))))
left_by (Some e) m = 0

-- The most replies that are still to come if nothing more is written.
abbrev pub left : Stream → ℕ
left m = left_by m.end m

-- The standing of a stream with this end: fine, faulted or broken.
abbrev pub standing_of : Option StreamEnd → Standing
standing_of (Some StoreFault) = Faulted
standing_of (Some NoMemory) = Broken
standing_of _ = Fine

-- The standing of a stream.
abbrev pub standing : Stream → Standing
standing m = standing_of m.end
