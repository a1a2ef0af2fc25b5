-- The making of a file, by its stages: look-ups, then its bytes, then the markers above it.
use Rattle.block_stream.specs.Holds.{HasRoom, Holds}
use Rattle.block_stream.specs.Stream.{Stream, answers, end_of, stage, told, wanted}
use Rattle.block_stream.specs.declared.mode.StreamEnd.{StreamEnd}
use Rattle.block_stream.specs.declared.mode.StreamEnd.TheVariants.{Done}
use Rattle.bucket_ops.specs.Asks.{DropAll, Head, request_of}
use Rattle.bucket_ops.specs.Looks.{look_of}
use Rattle.bucket_ops.specs.declared.look.Look.{Look}
use Rattle.bucket_ops.specs.declared.look.Look.TheVariants.{There}
use Rattle.dir_markers.specs.Markers.{created, keys_above}
use Rattle.fs_files.specs.Creation.{Creation, IsCreation}
use Rattle.fs_files.specs.Placed.{InFile, IsBeside, IsFileOrNot, NoneBut, NoneLeft, object_of}
use Rattle.fs_files.specs.Requests.{IsWriteOf, parts_in}
use Rattle.fs_files.specs.code.Writing.{Writing, filled, stream_of}
use Rattle.fs_files.specs.declared.create.CreateFile.{CreateFile}
use Rattle.fs_files.specs.declared.create.CreateStage.{CreateStage}
use Rattle.fs_files.specs.declared.create.CreateStage.TheVariants.{Below, DropMarkers, Here, Up, Write}
use Rattle.fs_ops.specs.Places.{NoFileAt, below_asks, look_asks}
use Rattle.fs_ops.specs.code.Climbs.{IsClimb, climbed, climbing}
use Rattle.fs_ops.specs.code.Steps.{unless}
use Rattle.fs_ops.specs.declared.climb.Climbed.{Climbed}
use Rattle.fs_ops.specs.declared.climb.Climbed.TheVariants.{File, Free, On as Goes_on}
use Rattle.fs_tree.specs.Answers.{Creates}
use Rattle.fs_tree.specs.Tree.{HasFile, IsAbsent, NoFiles}
use Rattle.fs_tree.specs.declared.answers.FsRefusal.{FsRefusal}
use Rattle.fs_tree.specs.declared.answers.FsRefusal.TheVariants.{AlreadyExists, IsDirectory, NoSuchBucket, NotDirectory, NotFound}
use Rattle.operations.specs.declared.plan.Step.{Step}
use Rattle.operations.specs.declared.plan.Step.TheVariants.{End, Next}
use Rattle.s3_types.specs.Answer.{without}
use Rattle.s3_types.specs.Requests.{only_reads}
use Rattle.s3_types.specs.Store.{BucketContent, Objects, Scene}
use Rattle.s3_types.specs.Tags.{plain_tag}
use Rattle.s3_types.specs.declared.reply.Reply.{Reply}
use Rattle.s3_types.specs.declared.request.Request.{Request}
use Rattle.std.specs.Prelude.{Bool, Err, List, None, Ok, Option, Result, Some, cond, drop, false, length, map, take, true, ℕ, [], ◌*◌, ◌+◌}
use Rattle.std.specs.Prelude.{◌∷◌, ◌≡◌, ◌≤◌, ◌⊎◌}
use Rattle.std.specs.FinMap as fin
use Rattle.block_stream.specs.Stream as streams

-- The answer of the making of a file.
abbrev pub CreateAnswer : Type 0
CreateAnswer = Result (Unit {0}) FsRefusal

-- The next stage, or the answer.
abbrev pub CreateStep : Type 0
CreateStep = Step CreateStage CreateAnswer

-- ---- the stages

-- The request of the stream, or a look at the path if the stream has none.
abbrev pub asked_or : Creation → Option Request → Request
asked_or o (Some r) = r
asked_or o None = request_of o.path.bucket (look_asks o.path.key)

-- The request of each stage.
abbrev pub asks : Creation → CreateStage → Request
asks o Here = request_of o.path.bucket (look_asks o.path.key)
asks o Below = request_of o.path.bucket (below_asks o.path.key 1)
asks o (Up c) = request_of o.path.bucket (Head c.first)
asks o (Write m) = asked_or o (wanted m)
asks o DropMarkers = request_of o.path.bucket (DropAll (created o.policy o.path))

-- The step that begins to write the bytes; the root is never a file.
abbrev pub write_at : List ℕ → Creation → CreateStep
write_at [] o = End (Err IsDirectory)
write_at (x ∷ p) o = Next (Write (filled o.path.bucket (x ∷ p) o.block o.bytes))

-- The step of the climb: the directories above are looked at one by one, and then the bytes are written.
abbrev pub on_climb : Creation → Climbed → CreateStep
on_climb o (File k) = End (Err (NotDirectory k))
on_climb o (Goes_on c) = Next (Up c)
on_climb o Free = write_at o.path.key o

-- The step that begins the climb over the directories above.
abbrev pub climb : Creation → CreateStep
climb o = on_climb o (climbing (keys_above o.path.key))

-- The step for a file that exists at the path: it is replaced or refused.
abbrev pub replace : Bool → Creation → CreateStep
replace true o = climb o
replace false o = End (Err AlreadyExists)

-- The step after the look for a file: one that exists is replaced or refused, and otherwise a directory is looked for.
abbrev pub here : Creation → Look → CreateStep
here o There = replace o.overwrite o
here o _ = Next Below

-- The step after the look for a file; the root is a directory.
abbrev pub on_here : List ℕ → Creation → Look → CreateStep
on_here [] o l = End (Err IsDirectory)
on_here (x ∷ p) o l = here o l

-- The step after the look below: a directory is refused.
abbrev pub on_below : Creation → Look → CreateStep
on_below o There = End (Err IsDirectory)
on_below o _ = climb o

-- The step after the bytes: the markers are deleted in one batch, if there are any.
abbrev pub drop_from : List (List ℕ) → CreateStep
drop_from [] = End (Ok tt)
drop_from (k ∷ ks) = Next DropMarkers

-- The step after the end of the stream.
abbrev pub ended : Creation → StreamEnd → CreateStep
ended o Done = drop_from (created o.policy o.path)
ended o _ = End (Err NotFound)

-- The step of the stream, which goes on until it has ended.
abbrev pub written : Creation → Option StreamEnd → Stream → CreateStep
written o None m = Next (Write m)
written o (Some e) m = ended o e

-- The step after a reply that moved the stream on.
abbrev pub moved : Creation → Stream → CreateStep
moved o m = written o (end_of m) m

-- The step after a reply to the stream. A reply that does not answer its request ends the operation with NotFound.
abbrev pub heard : Creation → Stream → Reply → Bool → CreateStep
heard o m r repeated = cond (answers (stage m) r) (moved o (told (stage m) m repeated r)) (End (Err NotFound))

-- The step after a reply, at each stage.
abbrev pub on : Creation → CreateStage → Reply → Bool → CreateStep
on o Here r repeated = on_here o.path.key o (look_of r)
on o Below r repeated = on_below o (look_of r)
on o (Up c) r repeated = on_climb o (climbed c (look_of r))
on o (Write m) r repeated = heard o m r repeated
on o DropMarkers r repeated = End (Ok tt)

-- The step after a reply. If there is no bucket, the operation ends with NoSuchBucket.
abbrev pub goes : Creation → CreateStage → Reply → Bool → CreateStep
goes o x r repeated = unless (look_of r) (End (Err NoSuchBucket)) (on o x r repeated)

-- ---- what holds

-- Holds if nothing exists at the path, or a file that may be replaced.
abbrev pub IsOpen : Creation → Objects → Type 0
IsOpen o z = (HasFile z o.path.key × (o.overwrite ≡ true)) ⊎ IsAbsent z o.path.key

-- The file may be made: nothing is in the way at its path or above it.
pub record IsDue (o : Creation) (z : Objects) : Type 0 where
  pub allowed : IsOpen o z
  pub free : NoFiles z (keys_above o.path.key)

-- Holds if the bucket exists and the file may be made there.
abbrev pub SomeDue : Creation → Option BucketContent → Type 0
SomeDue o None = ⊥
SomeDue o (Some c) = IsDue o c.objects

-- The objects with the file added.
abbrev pub file_in : Creation → Objects → Objects
file_in o z = fin.insert z o.path.key (object_of o.bytes)

-- Holds if the file is among these objects, with all markers above it as before or with those gone that the policy deletes.
abbrev pub IsMade : Creation → Objects → Objects → Type 0
IsMade o z m = (m ≡ file_in o z) ⊎ (m ≡ without (file_in o z) (created o.policy o.path))

-- Holds if a block is at least as long as the store's least part.
abbrev pub least : Creation → Scene → Type 0
least o z = z.content.minimum ≤ o.block

-- The store and what is pending together have the bytes.
pub record Writes (z : Scene) (b bytes : List ℕ) (c : BucketContent) (w : Writing) (s : Scene) (repeated : Bool) : Type 0 where
  pub beside : IsBeside z b c (IsFileOrNot c.objects w.key bytes) s
  pub drawn : (id : ℕ) → w.upload ≡ Some id → z.content.next ≤ id
  pub holds : Holds (stream_of b w) s repeated bytes

-- The tags are those of the first parts, and all bytes after these are pending. If there is an upload, it was begun since, and the file is
-- no shorter than a block.
pub record IsSending (o : Creation) (z : Scene) (w : Writing) (s : Scene) : Type 0 where
  pub tags : w.tags ≡ map plain_tag (take (length w.tags) (parts_in o))
  pub pending : w.pending ≡ drop (length w.tags * o.block) o.bytes
  pub unbegun : w.upload ≡ None → w.tags ≡ []
  pub begun : (id : ℕ) → w.upload ≡ Some id → (z.content.next ≤ id) × (o.block ≤ length o.bytes)
  pub later : z.content.next ≤ s.content.next

-- The stream is the file's, and has come this far.
pub record IsWriting (o : Creation) (z : Scene) (c : BucketContent) (m : Stream) (s : Scene) (repeated : Bool) : Type 0 where
  pub so_far : Writing
  pub is : m ≡ stream_of o.path.bucket so_far
  pub due : IsDue o c.objects
  pub room : HasRoom (stream_of o.path.bucket so_far)
  pub key : so_far.key ≡ o.path.key
  pub block : so_far.block ≡ o.block
  pub writes : least o z → Writes z o.path.bucket o.bytes c so_far s repeated
  pub sending : IsSending o z so_far s

-- What holds at a stage, if the bucket held c.
abbrev pub HoldsIn : Creation → Scene → BucketContent → CreateStage → Scene → Bool → Type 0
HoldsIn o z c Here s repeated = s ≡ z
HoldsIn o z c Below s repeated = (s ≡ z) × NoFileAt c.objects o.path.key
HoldsIn o z c (Up d) s repeated = (s ≡ z) × IsOpen o c.objects × IsClimb c.objects (keys_above o.path.key) d
HoldsIn o z c (Write m) s repeated = IsWriting o z c m s repeated
HoldsIn o z c DropMarkers s repeated =
    IsDue o c.objects × (created o.policy o.path ≡ [] → ⊥)
    × (least o z → IsBeside z o.path.bucket c (IsMade o c.objects) s)

-- The content of a bucket of the scene, if it exists.
abbrev pub bucket_at : Scene → List ℕ → Option BucketContent
bucket_at z b = fin.get z.content.buckets b

-- What holds at a stage, given what the bucket held.
abbrev pub HoldsAt : Option BucketContent → Creation → Scene → CreateStage → Scene → Bool → Type 0
HoldsAt None o z x s repeated = (s ≡ z) × (x ≡ Here)
HoldsAt (Some c) o z x s repeated = HoldsIn o z c x s repeated

-- What holds of the plan p that was begun as o in the scene z.
abbrev pub holds : CreateFile → Scene → CreateFile → Scene → Bool → Type 0
holds o z p s repeated = (p.file ≡ o.file) × IsCreation o.file × HoldsAt (bucket_at z o.file.path.bucket) o.file z p.stage s repeated

-- Holds if a refusal left all as it was.
abbrev pub IsUndone : CreateAnswer → Scene → Scene → Type 0
IsUndone (Ok x) z s = Unit {0}
IsUndone (Err r) z s = s ≡ z

-- If the store's least part is not longer than a block, this is the file that was made, or the refusal, which changes nothing.
abbrev pub GivesFile : Creation → Scene → CreateAnswer → Scene → Type 0
GivesFile o z a s = least o z → InFile (bucket_at z o.path.bucket) (λ m n. Creates o.path o.bytes o.overwrite o.policy m a n)
    (a ≡ Err NoSuchBucket) z o.path.bucket s × IsUndone a z s

-- Holds if the objects are as they were, or the file was made because it may be.
abbrev pub always_in : Creation → Objects → Objects → Type 0
always_in o z m = (m ≡ z) ⊎ (IsDue o z × IsMade o z m)

-- Holds at every point of the making of a file.
abbrev pub AlwaysFile : Creation → Scene → Scene → Type 0
AlwaysFile o z s = least o z → InFile (bucket_at z o.path.bucket) (always_in o) (Unit {0}) z o.path.bucket s

-- Holds if the plan is at its first stage.
abbrev pub starts : CreateFile → Type 0
starts p = IsCreation p.file × (p.stage ≡ Here)

-- The request that the plan sends next.
abbrev pub request : CreateFile → Request
request p = asks p.file p.stage

-- The plan's step from a step of its stages.
abbrev pub stepped : Creation → CreateStep → Step CreateFile CreateAnswer
stepped o (Next x) = Next (record { file = o; stage = x })
stepped o (End a) = End a

-- The step of the plan after a reply.
abbrev pub led : CreateFile → Reply → Bool → Step CreateFile CreateAnswer
led p r repeated = stepped p.file (goes p.file p.stage r repeated)

-- What the plan answers and leaves.
abbrev pub gives : CreateFile → Scene → CreateAnswer → Scene → Type 0
gives o z a s = GivesFile o.file z a s

-- Holds at every point of the plan.
abbrev pub always : CreateFile → Scene → Scene → Type 0
always o z s = AlwaysFile o.file z s

-- Holds if the request only looks, or if the file may be written and the request writes it or deletes the markers above it.
abbrev pub sends : CreateFile → Scene → Request → Type 0
sends o z r = (only_reads r ≡ true) ⊎ (SomeDue o.file (bucket_at z o.file.path.bucket) × IsWriteOf o.file z.content.next r)

-- The upload that a stage works on, if there is one.
abbrev pub upload_of : CreateStage → Option ℕ
upload_of (Write m) = m.upload
upload_of _ = None

-- While each send was answered: of the uploads that were begun since, only the one of the stage may be live.
abbrev pub calm : CreateFile → Scene → CreateFile → Scene → Type 0
calm o z p s = holds o z p s false × (least o.file z → NoneBut (upload_of p.stage) z o.file.path.bucket s)

-- What the plan answers and leaves if each send was answered: also, no upload that was begun since is live.
abbrev pub leaves : CreateFile → Scene → CreateAnswer → Scene → Type 0
leaves o z a s = gives o z a s × (least o.file z → NoneLeft z o.file.path.bucket s)

-- The most requests that the writing may still send.
abbrev pub write_left : Creation → ℕ
write_left o = length o.bytes + 4

-- The most requests that are still to come at each stage.
abbrev pub left_at : Creation → CreateStage → ℕ
left_at o Here = length (keys_above o.path.key) + 1 + write_left o
left_at o Below = length (keys_above o.path.key) + write_left o
left_at o (Up c) = length c.rest + write_left o
left_at o (Write m) = streams.left m
left_at o DropMarkers = 0

-- The most requests that the plan may still send.
abbrev pub left : CreateFile → Scene → ℕ
left p s = left_at p.file p.stage
