-- What a stream that is driven alone has stored and still holds: at every point, all bytes that were written.
use Rattle.block_stream.specs.Stream.{Stream, chunk, has_part, is_direct, is_settled}
use Rattle.block_stream.specs.declared.mode.StreamEnd.{StreamEnd}
use Rattle.block_stream.specs.declared.mode.StreamEnd.TheVariants.{Done, Gone, NoMemory, StoreFault}
use Rattle.block_stream.specs.declared.mode.StreamMode.{StreamMode}
use Rattle.block_stream.specs.declared.mode.StreamMode.TheVariants.{Delayed, Direct}
use Rattle.s3_types.specs.Multipart.{live}
use Rattle.s3_types.specs.Store.{BucketContent, Parts, Scene, Upload}
use Rattle.s3_types.specs.Tags.{plain_tag}
use Rattle.s3_types.specs.declared.limits.TheConstants.{MOST_PARTS}
use Rattle.std.specs.List.{concat}
use Rattle.std.specs.Prelude.{Bool, List, None, Option, Some, false, length, map, true, ℕ, [], ◌*◌, ◌++◌, ◌+◌, ◌<◌, ◌∷◌, ◌≡◌, ◌≤◌, ◌⊎◌}
use Rattle.std.specs.FinMap as fin

-- The parts with these blocks added, numbered from n on.
abbrev pub numbered_from : ℕ → Parts → List (List ℕ) → Parts
numbered_from n m [] = m
numbered_from n m (b ∷ bs) = numbered_from (n + 1) (fin.insert m n b) bs

-- The parts that are exactly these blocks, numbered from 1 on.
abbrev pub numbered : List (List ℕ) → Parts
numbered bs = numbered_from 1 fin.empty bs

-- Holds if each block has n bytes.
abbrev pub AreLong : ℕ → List (List ℕ) → Type 0
AreLong n [] = Unit {0}
AreLong n (b ∷ bs) = (length b ≡ n) × AreLong n bs

-- Blocks of an output: all but the last have n bytes, the last has at most n, and none is empty unless it is the only one.
pub record AreBlocks (n : ℕ) (bs : List (List ℕ)) : Type 0 where
  pub front : List (List ℕ)
  pub last : List ℕ
  pub are : bs ≡ front ++ last ∷ []
  pub long : AreLong n front
  pub short : length last ≤ n
  pub some : (0 < length last) ⊎ (front ≡ [])

-- The upload of this id is live with this key, and has exactly these parts.
pub record HasParts (c : BucketContent) (id : ℕ) (key : List ℕ) (bs : List (List ℕ)) : Type 0 where
  pub upload : Upload
  pub there : fin.get c.uploads id ≡ Some upload
  pub its_key : upload.key ≡ key
  pub parts : upload.parts ≡ numbered bs

-- ---- at the end with Done

-- Delayed: the parts of the live upload are blocks, and joined they are what was written. The stream's tags are those of the parts, so a
-- completion that names them finds them.
pub record IsUpload (m : Stream) (c : BucketContent) (id : ℕ) (bytes : List ℕ) : Type 0 where
  pub sent : List (List ℕ)
  pub parts : HasParts c id m.key sent
  pub joined : bytes ≡ concat sent
  pub blocks : AreBlocks m.block sent
  pub tags : m.tags ≡ map plain_tag sent

-- Holds if the parts of the stream's live upload are what was written.
abbrev pub IsUploadOf : Option ℕ → Stream → BucketContent → List ℕ → Type 0
IsUploadOf None m c bytes = ⊥
IsUploadOf (Some id) m c bytes = IsUpload m c id bytes

-- Holds if the output is stored. Direct: the object is what was written, with no length header. Delayed: the parts of the live upload are.
abbrev pub IsWritten : StreamMode → Stream → BucketContent → List ℕ → Type 0
IsWritten Direct m c bytes = fin.get c.objects m.key ≡ Some (record { bytes = bytes; header = None })
IsWritten Delayed m c bytes = IsUploadOf m.upload m c bytes

-- ---- before the end

-- An upload that is being filled: its parts and what is pending are what was written. A part whose reply was lost may be there already.
pub record Fills (m : Stream) (c : BucketContent) (id : ℕ) (repeated : Bool) (bytes : List ℕ) : Type 0 where
  pub sent : List (List ℕ)
  pub parts : HasParts c id m.key sent ⊎ ((repeated ≡ true) × (has_part m ≡ true) × HasParts c id m.key (sent ++ chunk m ∷ []))
  pub joined : bytes ≡ concat sent ++ m.pending
  pub tags : m.tags ≡ map plain_tag sent
  pub cut : AreLong m.block sent ⊎ ((m.closed ≡ true) × (m.pending ≡ []) × (0 < length sent) × AreBlocks m.block sent)

-- A completion took effect, and its reply was lost.
pub record IsHidden (m : Stream) (c : BucketContent) (id : ℕ) (repeated : Bool) (bytes : List ℕ) : Type 0 where
  pub again : repeated ≡ true
  pub closed : m.closed ≡ true
  pub direct : is_direct m.mode ≡ true
  pub no_part : has_part m ≡ false
  pub gone : live c.uploads m.key id ≡ None
  pub there : fin.get c.objects m.key ≡ Some (record { bytes = bytes; header = None })

-- Holds if what was written is stored or pending, given the end and the upload of the stream.
abbrev pub HoldsIn : Option StreamEnd → Option ℕ → Stream → BucketContent → Bool → List ℕ → Type 0
HoldsIn None None m c repeated bytes = (bytes ≡ m.pending) × (m.tags ≡ [])
HoldsIn None (Some id) m c repeated bytes = (Fills m c id repeated bytes × (is_settled m ≡ false)) ⊎ IsHidden m c id repeated bytes
HoldsIn (Some Done) u m c repeated bytes = (m.closed ≡ true) × IsWritten m.mode m c bytes
HoldsIn (Some Gone) u m c repeated bytes = ⊥
HoldsIn (Some StoreFault) u m c repeated bytes = Unit {0}
HoldsIn (Some NoMemory) u m c repeated bytes = Unit {0}

-- What was written is at most 10,000 blocks. Until the close or a fault it is the parts and what is pending.
pub record HasRoom (m : Stream) : Type 0 where
  pub some : 1 ≤ m.block
  pub few : m.block * length m.tags + length m.pending ≤ m.block * MOST_PARTS
  pub counted : m.closed ≡ false → m.end ≡ None → m.count ≡ m.block * length m.tags + length m.pending

-- These bytes were written, and are stored or pending. The scene has the stream's bucket, and blocks are no shorter than the least part.
pub record Holds (m : Stream) (s : Scene) (repeated : Bool) (bytes : List ℕ) : Type 0 where
  pub content : BucketContent
  pub there : fin.get s.content.buckets m.bucket ≡ Some content
  pub least : s.content.minimum ≤ m.block
  pub room : HasRoom m
  pub held : HoldsIn m.end m.upload m content repeated bytes

-- A stream is ready if it holds some bytes as what was written.
pub record IsReady (m : Stream) (s : Scene) (repeated : Bool) : Type 0 where
  pub bytes : List ℕ
  pub holds : Holds m s repeated bytes
