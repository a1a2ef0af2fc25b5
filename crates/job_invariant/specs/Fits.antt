-- The states of an attempt's operations that fit what the attempt knows and has sent.
use Rattle.text_and_lists.specs.Members.{IsIn, RisesFrom}
use Rattle.job_invariant.specs.Facts.{ApartFiles, AreCommits, IsWritten}
use Rattle.job_invariant.specs.Told.{Told, known}
use Rattle.job_model.specs.Attempts.{Who}
use Rattle.job_model.specs.Files.{File}
use Rattle.job_model.specs.JobScript.{Script}
use Rattle.job_model.specs.Known.{Drawn, Known}
use Rattle.job_protocol.specs.Operations.{Operation, TheTaskAbort, TheTaskCommit, TheWrite}
use Rattle.job_protocol.specs.Outputs.{files}
use Rattle.job_protocol.specs.Records.{file_key}
use Rattle.job_protocol.specs.Seen.{is_magic, is_staging}
use Rattle.job_protocol.specs.TaskAborts.{Dropping, Removing, Sweeping, TaskAbort, TaskAbortOver}
use Rattle.job_protocol.specs.TaskCommits.{Checking, Looking, Publishing, Reading, Renaming, Storing, TaskCommit, TaskCommitOver}
use Rattle.job_protocol.specs.TaskCommits.{attempt_prefix}
use Rattle.job_protocol.specs.Uploading.{Creating, Sending, Uploading, file_parts}
use Rattle.job_protocol.specs.Writes.{Marking, Recording, Write, WriteOver}
use Rattle.list_walk.specs.Walks.{Deleting, Listing, Sweep}
use Rattle.s3_types.specs.Pages.{begins}
use Rattle.s3_types.specs.declared.request.Committer.{Committer}
use Rattle.s3_types.specs.declared.request.Committer.TheVariants.{Magic}
use Rattle.std.specs.Prelude.{List, drop, false, length, true, ℕ, [], ◌∷◌, ◌≡◌, ◌≤◌, ◌⊎◌}
use Rattle.job_model.specs.declared.ends.TaskEnd.TheVariants as tasks
use Rattle.job_protocol.specs.Writes as writes
use Rattle.job_protocol.specs.TaskCommits as commits

-- These files are left to upload: the attempt knows no upload of them, and all its other files are written.
pub record Todo (w : Script) (minimum : ℕ) (a : Who) (ds : List Drawn) (fs : List File) : Type 0 where
  pub each : (f : File) → IsIn f fs → IsIn f (files w a)
  pub once : ApartFiles fs
  pub unknown : (f : File) → IsIn f fs → (d : Drawn) → IsIn d ds → d.key ≡ file_key w f → ⊥
  pub others : (f : File) → IsIn f (files w a) → IsIn f fs ⊎ IsWritten w minimum ds f

-- The attempt drew the upload of this file last. These parts of it are left to send, and then these files.
pub record Begun (w : Script) (minimum : ℕ) (a : Who) (ds : List Drawn) (f : File) (fs : List File) (parts : List (List ℕ)) : Type 0 where
  pub latest : Drawn
  pub before : List Drawn
  pub is : ds ≡ latest ∷ before
  pub key : latest.key ≡ file_key w f
  pub few : length latest.tags ≤ length (file_parts w minimum f)
  pub left : parts ≡ drop (length latest.tags) (file_parts w minimum f)
  pub each : (g : File) → IsIn g (f ∷ fs) → IsIn g (files w a)
  pub once : ApartFiles (f ∷ fs)
  pub unknown : (g : File) → IsIn g fs → (d : Drawn) → IsIn d ds → d.key ≡ file_key w g → ⊥
  pub others : (g : File) → IsIn g (files w a) → IsIn g (f ∷ fs) ⊎ IsWritten w minimum ds g

-- The attempt knows the upload of each of its files, with all parts.
abbrev pub AllWritten : Script → ℕ → Who → List Drawn → Type 0
AllWritten w minimum a ds = (f : File) → IsIn f (files w a) → IsWritten w minimum ds f

-- The attempt has sent neither the put of its temporary file nor its publishing request, so it may still learn of uploads.
abbrev pub IsOpen : Known → Type 0
IsOpen k = (k.publish_sent ≡ false) × (k.put_sent ≡ false)

-- ---- uploads, of any committer

-- The state of the upload of a file fits what the attempt knows.
abbrev pub FitsUpload : Script → ℕ → Who → Known → File → List File → Uploading → Type 0
FitsUpload w minimum a k f fs Creating = Todo w minimum a k.drawn (f ∷ fs)
FitsUpload w minimum a k f fs (Sending p ps) = Begun w minimum a k.drawn f fs (p ∷ ps)

-- ---- a write

-- What a write has done when it is done: with the magic committer it has written all files, with the others nothing yet.
abbrev pub Wrote : Committer → Script → ℕ → Who → List Drawn → Type 0
Wrote Magic w minimum a ds = AllWritten w minimum a ds
Wrote _ w minimum a ds = Todo w minimum a ds (files w a)

-- The state of a write fits what the attempt knows.
abbrev pub FitsWrite : Script → ℕ → Who → Known → Write → Type 0
FitsWrite w minimum a k (writes.Uploads f fs u) = (is_magic w.committer ≡ true) × IsOpen k × FitsUpload w minimum a k f fs u
FitsWrite w minimum a k (Marking f fs) = (is_magic w.committer ≡ true) × IsOpen k × Begun w minimum a k.drawn f fs []
FitsWrite w minimum a k (Recording f fs) = (is_magic w.committer ≡ true) × IsOpen k × Begun w minimum a k.drawn f fs []
FitsWrite w minimum a k (WriteOver end) = end ≡ tasks.Done → IsOpen k × Wrote w.committer w minimum a k.drawn

-- ---- a task's commit

-- The state of a task's commit fits what the attempt knows.
abbrev pub FitsCommit : Script → ℕ → Who → Known → TaskCommit → Type 0
FitsCommit w minimum a k (Looking keys) = (is_magic w.committer ≡ true) × AllWritten w minimum a k.drawn × RisesFrom [] keys
FitsCommit w minimum a k (Reading cs f fs) = (is_magic w.committer ≡ true) × AreCommits w minimum k.drawn a cs
FitsCommit w minimum a k (Publishing cs) = (is_magic w.committer ≡ true) × AreCommits w minimum k.drawn a cs
FitsCommit w minimum a k (Checking d ds) = (is_staging w.committer ≡ true) × IsOpen k × Todo w minimum a k.drawn (files w a)
FitsCommit w minimum a k (commits.Uploads f fs u) = (is_staging w.committer ≡ true) × IsOpen k × FitsUpload w minimum a k f fs u
FitsCommit w minimum a k Storing = (is_staging w.committer ≡ true) × AreCommits w minimum k.drawn a (files w a)
FitsCommit w minimum a k Renaming = (is_staging w.committer ≡ true) × (k.put_sent ≡ true) × AreCommits w minimum k.drawn a (files w a)
FitsCommit w minimum a k (TaskCommitOver end) = end ≡ tasks.Done → k.publish_sent ≡ true

-- ---- a task's abort

-- All keys are in the attempt's own directory.
abbrev pub AllOwn : Script → Who → List (List ℕ) → Type 0
AllOwn w a keys = (q : List ℕ) → IsIn q keys → begins (attempt_prefix w a) q ≡ true

-- A sweep of an attempt's directory deletes only keys in it.
abbrev pub FitsSweep : Script → Who → Sweep → Type 0
FitsSweep w a (Listing keys) = AllOwn w a keys
FitsSweep w a (Deleting q qs) = AllOwn w a (q ∷ qs)

-- The state of a task's abort fits what the attempt knows.
abbrev pub FitsAbort : Script → Who → Known → TaskAbort → Type 0
FitsAbort w a k (Dropping d ds sent) = (k.publish_sent ≡ false) × ((e : Drawn) → IsIn e (d ∷ ds) → IsIn e k.drawn)
FitsAbort w a k (Sweeping s) = (k.publish_sent ≡ false) × FitsSweep w a s
FitsAbort w a k Removing = k.publish_sent ≡ false
-- It ends Kept exactly if the attempt has sent its publishing request.
FitsAbort w a k (TaskAbortOver end) = (end ≡ tasks.Kept → k.publish_sent ≡ true) × (k.publish_sent ≡ true → end ≡ tasks.Kept)

-- ---- all operations of an attempt

-- The state of an attempt's operation fits what the attempt knows and has sent.
abbrev pub Fits : Script → ℕ → Who → Told → Operation → Type 0
Fits w minimum a m (TheWrite t) = (m.undone a ≡ false) × FitsWrite w minimum a (known m a) t.operation
Fits w minimum a m (TheTaskCommit t) = (m.undone a ≡ false) × FitsCommit w minimum a (known m a) t.operation
Fits w minimum a m (TheTaskAbort t) = FitsAbort w a (known m a) t.operation
Fits w minimum a m _ = ⊥
