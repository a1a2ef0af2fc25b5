-- A file's bytes while they are written: a direct block stream that got all of them and was closed (Hadoop, S3A: block output).
use Rattle.block_stream.specs.Stream.{Stream, close, fresh, wrote}
use Rattle.block_stream.specs.declared.mode.StreamMode.TheVariants.{Direct}
use Rattle.s3_types.specs.Tags.{Spelled}
use Rattle.std.specs.Prelude.{List, None, Option, true, ℕ}

-- The block stream that got these bytes in one piece and was closed. It has sent nothing yet.
abbrev pub filled : List ℕ → List ℕ → ℕ → List ℕ → Stream
filled bucket key block bytes = close (wrote (fresh Direct bucket key block) bytes)

-- How far a file is written.
pub record Writing : Type 0 where
  pub key : List ℕ
  -- the length in bytes of each part but the last
  pub block : ℕ
  -- the bytes that are in no part that was answered
  pub pending : List ℕ
  -- the upload, if it was begun
  pub upload : Option ℕ
  -- the tags of the parts that were answered, from the first on
  pub tags : List Spelled
  -- the number of bytes that were written
  pub count : ℕ

-- The stream that has come this far.
abbrev pub stream_of : List ℕ → Writing → Stream
stream_of bucket w =
    record {
      mode = Direct;
      bucket = bucket;
      key = w.key;
      block = w.block;
      pending = w.pending;
      upload = w.upload;
      tags = w.tags;
      count = w.count;
      closed = true;
      end = None;
    }
