-- How a stream stores what is pending: blocks that are cut off, and a rest.
use Rattle.block_stream.specs.Stream.{Stream}
use Rattle.block_stream.specs.declared.mode.StreamEnd.{StreamEnd}
use Rattle.block_stream.specs.declared.mode.StreamMode.{StreamMode}
use Rattle.s3_types.specs.Tags.{Spelled}
use Rattle.std.specs.List.{concat}
use Rattle.std.specs.Prelude.{Bool, List, Option, ℕ, ◌++◌}

-- The stream that these fields stand for.
abbrev pub seen : StreamMode → List ℕ → List ℕ → ℕ → List (List ℕ) → List ℕ → Option ℕ → List Spelled → ℕ → Bool → Option StreamEnd → Stream
seen mode bucket key block queue rest upload tags count closed end = record {
  mode = mode;
  bucket = bucket;
  key = key;
  block = block;
  pending = concat queue ++ rest;
  upload = upload;
  tags = tags;
  count = count;
  closed = closed;
  end = end;
}
