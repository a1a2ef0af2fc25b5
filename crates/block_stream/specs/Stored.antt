-- What a stream that ended with Done leaves in a scene.
use Rattle.block_stream.specs.Holds.{IsWritten}
use Rattle.block_stream.specs.Stream.{Stream}
use Rattle.block_stream.specs.declared.mode.StreamEnd.TheVariants.{Done}
use Rattle.s3_types.specs.Store.{BucketContent, Scene}
use Rattle.std.specs.Prelude.{List, Some, ℕ, ◌≡◌}
use Rattle.std.specs.FinMap as fin

-- The stream is done, and its output in its bucket is these bytes: the object, or the joined parts of the live upload.
pub record IsStored (m : Stream) (s : Scene) (bytes : List ℕ) : Type 0 where
  pub done : m.end ≡ Some Done
  pub content : BucketContent
  pub there : fin.get s.content.buckets m.bucket ≡ Some content
  pub written : IsWritten m.mode m content bytes

-- Two streams have the same output, with as many bytes written.
pub record IsSameOutput (m m' : Stream) : Type 0 where
  pub mode : m'.mode ≡ m.mode
  pub bucket : m'.bucket ≡ m.bucket
  pub key : m'.key ≡ m.key
  pub block : m'.block ≡ m.block
  pub count : m'.count ≡ m.count
  pub closed : m'.closed ≡ m.closed
