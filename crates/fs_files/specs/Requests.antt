-- The requests that put a file into S3: PutObject or a multipart upload, and DeleteObjects of the directory markers above it
-- (Amazon S3 API; Hadoop, S3A: block output, directory markers).
use Rattle.dir_markers.specs.Markers.{created}
use Rattle.fs_files.specs.Creation.{Creation}
use Rattle.s3_types.specs.Blocks.{named_from, parts_of}
use Rattle.s3_types.specs.Tags.{plain_tag}
use Rattle.s3_types.specs.declared.request.Request.{Request}
use Rattle.s3_types.specs.declared.request.Request.TheVariants.{CompleteUpload, CreateUpload, DeleteObjects, PutObject, UploadPart}
use Rattle.std.specs.List.{slice_get}
use Rattle.std.specs.Prelude.{List, None, Some, length, map, ℕ, [], ◌+◌, ◌<◌, ◌≡◌, ◌≤◌}

-- The parts of the file's upload, from part 1 on: its bytes cut into blocks.
abbrev pub parts_in : Creation → List (List ℕ)
parts_in o = parts_of o.block o.bytes

-- Holds if the request writes the file or deletes the markers above it; `first` is the least upload id that the store has not given yet.
pub data IsWriteOf (o : Creation) (first : ℕ) (r : Request) : Type 0 where
  -- PutObject of all bytes, with no length header, if the file is shorter than a block
  Puts : length o.bytes < o.block → r ≡ PutObject o.path.bucket o.path.key o.bytes None → IsWriteOf o first r
  -- CreateMultipartUpload, if it is not
  Begins : o.block ≤ length o.bytes → r ≡ CreateUpload o.path.bucket o.path.key → IsWriteOf o first r
  -- UploadPart: the block at place i, from 0 on, is part i + 1
  Sends : (id i : ℕ) (block : List ℕ) → o.block ≤ length o.bytes → first ≤ id → slice_get (parts_in o) i ≡ Some block
      → r ≡ UploadPart o.path.bucket o.path.key id (i + 1) block → IsWriteOf o first r
  -- CompleteMultipartUpload, which names all parts from 1 on, each by the tag of its block
  Completes : (id : ℕ) → o.block ≤ length o.bytes → first ≤ id
      → r ≡ CompleteUpload o.path.bucket o.path.key id (named_from 1 (map plain_tag (parts_in o))) → IsWriteOf o first r
  -- DeleteObjects of the markers above the file, if the policy deletes some
  Cleans : (created o.policy o.path ≡ [] → ⊥) → r ≡ DeleteObjects o.path.bucket (created o.policy o.path) → IsWriteOf o first r
