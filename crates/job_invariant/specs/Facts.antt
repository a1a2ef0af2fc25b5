-- The facts of one job: what holds of its store, of the cluster and of what its attempts know, from the end of its set-up on, whatever
-- strangers send.
use Rattle.text_and_lists.specs.Members.{IsIn}
use Rattle.job_invariant.specs.Stores.{at_id, at_key, at_path, at_place, sets_at}
use Rattle.job_invariant.specs.Told.{Told}
use Rattle.job_model.specs.Attempts.{Who}
use Rattle.job_model.specs.Files.{File}
use Rattle.job_model.specs.JobScript.{Script}
use Rattle.job_model.specs.Known.{Drawn, Known}
use Rattle.job_protocol.specs.Outputs.{files}
use Rattle.job_protocol.specs.Records.{file_key, record_text, set_text}
use Rattle.job_protocol.specs.Seen.{Seen, is_magic, is_staging}
use Rattle.job_protocol.specs.Uploading.{file_parts}
use Rattle.magic_paths.specs.Layout.{magic_prefix}
use Rattle.magic_paths.specs.Places.{ClusterPlace, MarkerPlace, Place, RecordPlace, SetPlace, TemporaryPlace, key_at}
use Rattle.s3_types.specs.Pages.{begins}
use Rattle.s3_types.specs.Store.{Parts, Scene, Upload}
use Rattle.s3_types.specs.Tags.{plain_tag}
use Rattle.s3_types.specs.declared.object.Object.{Object}
use Rattle.std.specs.Prelude.{Bool, List, Option, Some, false, length, map, slice_get, suc, take, true, ℕ, [], ◌<◌, ◌∷◌, ◌≡◌, ◌≤◌}
use Rattle.store_frame.specs.Held.{HasBucket}
use Rattle.std.specs.FinMap as fin

-- An attempt of one of the job's tasks, with a number that a script may give.
pub record IsAttempt (w : Script) (a : Who) : Type 0 where
  pub task : a.task < w.tasks
  pub attempt : a.attempt ≤ 99

-- ---- uploads: each id is drawn once, for one attempt and one of its files

-- Each upload id is drawn once, and known to one attempt, for one file.
pub record Ids (uploads : ℕ → Option Upload) (next : ℕ) (drawn : Who → List Drawn) : Type 0 where
  -- Live and known ids are below the next one.
  pub fresh : (id : ℕ) (x : Upload) → uploads id ≡ Some x → id < next
  pub below : (a : Who) (d : Drawn) → IsIn d (drawn a) → d.upload < next
  -- An id is known to one attempt, for one upload.
  pub apart : (a b : Who) (d e : Drawn) → IsIn d (drawn a) → IsIn e (drawn b) → d.upload ≡ e.upload → (a ≡ b) × (d ≡ e)
  -- An attempt knows one upload of a key.
  pub once : (a : Who) (d e : Drawn) → IsIn d (drawn a) → IsIn e (drawn a) → d.key ≡ e.key → d ≡ e

-- A live upload whose parts are parts of its file at their numbers. It has at least the parts whose tags came back.
pub record IsHeld (w : Script) (minimum : ℕ) (uploads : ℕ → Option Upload) (d : Drawn) (f : File) : Type 0 where
  pub parts : Parts
  -- It lives, with this key.
  pub stands : uploads d.upload ≡ Some (record { key = d.key; parts = parts })
  -- Each of its parts is the file's part of that number.
  pub blocks : (n : ℕ) (b : List ℕ) → fin.get parts n ≡ Some b → (i : ℕ) × (n ≡ suc i) × (slice_get (file_parts w minimum f) i ≡ Some b)
  -- It has each part whose tag came back.
  pub back : (i : ℕ) → i < length d.tags → (b : List ℕ) × (fin.get parts (suc i) ≡ Some b)

-- A known upload is of a file of its attempt, and has the tags and sizes of the file's first parts. It is live until the driver has ended
-- it or its attempt takes back what it did.
pub record IsOwned (w : Script) (minimum : ℕ) (uploads : ℕ → Option Upload) (ended : ℕ → Bool) (undone : Who → Bool) (a : Who) (d : Drawn) :
    Type 0 where
  pub file : File
  pub mine : IsIn file (files w a)
  pub key : d.key ≡ file_key w file
  pub few : length d.tags ≤ length (file_parts w minimum file)
  pub tags : d.tags ≡ map plain_tag (take (length d.tags) (file_parts w minimum file))
  pub sizes : d.sizes ≡ map length (take (length d.tags) (file_parts w minimum file))
  pub held : ended d.upload ≡ false → undone a ≡ false → IsHeld w minimum uploads d file

-- Each upload that an attempt knows is of one of its files, and lives with that file's parts until it is ended.
abbrev pub Owned : Script → ℕ → (ℕ → Option Upload) → (ℕ → Bool) → (Who → Bool) → (Who → List Drawn) → Type 0
Owned w minimum uploads ended undone drawn = (a : Who) (d : Drawn) → IsIn d (drawn a) → IsOwned w minimum uploads ended undone a d

-- ---- records of the magic committer

-- The attempt knows an upload of the file, and the tags of all its parts came back.
pub record IsWritten (w : Script) (minimum : ℕ) (ds : List Drawn) (f : File) : Type 0 where
  pub drawn : Drawn
  pub known : IsIn drawn ds
  pub key : drawn.key ≡ file_key w f
  pub complete : length drawn.tags ≡ length (file_parts w minimum f)

-- The object is the record of a file's upload.
pub record IsRecord (w : Script) (minimum : ℕ) (ds : List Drawn) (a : Who) (f : File) (x : Object) : Type 0 where
  pub written : IsWritten w minimum ds f
  pub bytes : x.bytes ≡ record_text w a f written.drawn

-- Each record of an attempt is that of the upload which the attempt knows for the file.
abbrev pub Records : Script → ℕ → (Place → Option Object) → (Who → List Drawn) → Type 0
Records w minimum objects drawn = (a : Who) (f : File) (x : Object) → IsIn f (files w a)
    → objects (RecordPlace a.task a.attempt f.0) ≡ Some x → IsRecord w minimum (drawn a) a f x

-- A place of the job below its magic directory: the marker or the record of a file of an attempt, or the set of a task.
abbrev pub IsOwnPlace : Script → Place → Type 0
IsOwnPlace w (MarkerPlace t a p) = (f : File) × IsIn f (files w (record { task = t; attempt = a })) × (p ≡ f.0)
IsOwnPlace w (RecordPlace t a p) = (f : File) × IsIn f (files w (record { task = t; attempt = a })) × (p ≡ f.0)
IsOwnPlace w (SetPlace t) = t < w.tasks
IsOwnPlace w _ = ⊥

-- Each key below the job's magic directory is that of such a place.
abbrev pub Below : Script → (List ℕ → Option Object) → Type 0
Below w objects = (k : List ℕ) (x : Object) → begins (magic_prefix w.dest.key w.job) k ≡ true → objects k ≡ Some x → (p : Place)
    × IsOwnPlace w p × (k ≡ key_at w.dest.key w.job p)

-- ---- sets

-- No two of the files have the same path.
abbrev pub ApartFiles : List File → Type 0
ApartFiles [] = Unit {0}
ApartFiles (f ∷ fs) = ((g : File) → IsIn g fs → f.0 ≡ g.0 → ⊥) × ApartFiles fs

-- These are the files of the attempt, each once, and all are written.
pub record AreCommits (w : Script) (minimum : ℕ) (ds : List Drawn) (a : Who) (commits : List File) : Type 0 where
  pub each : (f : File) → IsIn f commits → IsIn f (files w a)
  pub all : (f : File) → IsIn f (files w a) → IsIn f commits
  pub once : ApartFiles commits
  pub written : (f : File) → IsIn f (files w a) → IsWritten w minimum ds f

-- The knowledge of an attempt that knows these uploads; a set says nothing else of the attempt.
abbrev pub knowing : List Drawn → Known
knowing ds = record { drawn = ds; put_sent = false; publish_sent = false }

-- The bytes are the set of an attempt of the task: the last one that published. It has sent its publishing request.
pub record IsSet (w : Script) (minimum : ℕ) (last : ℕ → Option ℕ) (sent : Who → Bool) (drawn : Who → List Drawn) (t : ℕ) (bytes : List ℕ) :
    Type 0 where
  pub by : Who
  pub task : by.task ≡ t
  pub number : by.attempt ≤ 99
  pub latest : last t ≡ Some by.attempt
  pub has_sent : sent by ≡ true
  pub commits : List File
  pub are : AreCommits w minimum (drawn by) by commits
  pub text : bytes ≡ set_text w by commits (knowing (drawn by))

-- Each set is that of the attempt that published last, with all its files, each whole.
abbrev pub Sets : Script → ℕ → (ℕ → Option (List ℕ)) → (ℕ → Option ℕ) → (Who → Bool) → (Who → List Drawn) → Type 0
Sets w minimum sets last sent drawn = (t : ℕ) (bytes : List ℕ) → t < w.tasks → sets t ≡ Some bytes → IsSet w minimum last sent drawn t bytes

-- If an attempt has published a task, the set of the task exists.
abbrev pub Standing : Script → (ℕ → Option (List ℕ)) → (ℕ → Option ℕ) → Type 0
Standing w sets last = (t a : ℕ) → t < w.tasks → last t ≡ Some a → (bytes : List ℕ) × (sets t ≡ Some bytes)

-- The bytes are the set of an attempt that has sent the put of its temporary file.
pub record IsTemporary (w : Script) (minimum : ℕ) (put : Bool) (ds : List Drawn) (a : Who) (bytes : List ℕ) : Type 0 where
  pub has_put : put ≡ true
  pub are : AreCommits w minimum ds a (files w a)
  pub text : bytes ≡ set_text w a (files w a) (knowing ds)

-- The temporary file of a staging attempt, if it exists, is the attempt's set.
abbrev pub Temporaries : Script → ℕ → (ClusterPlace → Option (List ℕ)) → (Who → Bool) → (Who → List Drawn) → Type 0
Temporaries w minimum paths put drawn = (a : Who) (bytes : List ℕ) → IsAttempt w a → paths (TemporaryPlace a.task a.attempt) ≡ Some bytes
    → IsTemporary w minimum (put a) (drawn a) a bytes

-- An attempt that has sent its publishing request has sent no abort of an upload and no deletion.
abbrev pub Kept : (Who → Bool) → (Who → Bool) → Type 0
Kept sent undone = (a : Who) → sent a ≡ true → undone a ≡ false

-- ---- all of them

-- All that holds of the job's store, of the cluster and of what its attempts know, between any two requests.
pub record Facts (w : Script) (minimum : ℕ) (s : Scene) (last : ℕ → Option ℕ) (m : Told) : Type 0 where
  -- The destination's bucket exists.
  pub there : HasBucket s.content w.dest.bucket
  -- This is the store's least size of a part.
  pub least : s.content.minimum ≡ minimum
  -- Each upload id is drawn once.
  pub ids : Ids (at_id w s.content) s.content.next m.drawn
  -- Known uploads are as whole as the tags that came back say.
  pub owned : Owned w minimum (at_id w s.content) m.ended m.undone m.drawn
  -- Magic: below the job's magic directory there are only the job's own keys.
  pub below : is_magic w.committer ≡ true → Below w (at_key w s.content)
  -- Magic: each record is that of its file's upload.
  pub records : is_magic w.committer ≡ true → Records w minimum (at_place w s.content) m.drawn
  -- Each set is whole, and is that of the last publisher.
  pub sets : Sets w minimum (sets_at w s) last m.publish_sent m.drawn
  -- Until the driver's abort or clean begins, the set of each task that was published exists.
  pub standing : m.cleaned ≡ false → Standing w (sets_at w s) last
  -- Staging: each temporary file is a whole set.
  pub temporaries : is_staging w.committer ≡ true → Temporaries w minimum (at_path w s) m.put_sent m.drawn
  -- An attempt that has published takes nothing back.
  pub kept : Kept m.publish_sent m.undone

-- The facts hold of what a journal shows and says at a moment.
abbrev pub Hold : Script → ℕ → Seen → Told → Type 0
Hold w minimum s m = Facts w minimum s.scene s.last m
