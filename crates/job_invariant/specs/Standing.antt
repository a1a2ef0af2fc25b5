-- Until the driver's abort or clean of the job begins, what an attempt has written exists, and the driver ends no upload to which something
-- may still be sent. So no write or commit finds its own gone.
use Rattle.text_and_lists.specs.Members.{IsIn}
use Rattle.text_and_lists.specs.Order.{text_cmp}
use Rattle.job_invariant.specs.Stores.{at_key, at_path}
use Rattle.job_invariant.specs.Told.{Told, ends}
use Rattle.job_model.specs.Attempts.{Who}
use Rattle.job_model.specs.Files.{File}
use Rattle.job_model.specs.JobScript.{Script}
use Rattle.job_model.specs.Known.{Drawn}
use Rattle.job_model.specs.declared.ends.TaskEnd.{TaskEnd}
use Rattle.job_protocol.specs.JobCommits.{Commit, Reverting}
use Rattle.job_protocol.specs.Operations.{Operation, TheTaskCommit, TheWrite}
use Rattle.job_protocol.specs.Outputs.{files}
use Rattle.job_protocol.specs.Records.{record_key}
use Rattle.job_protocol.specs.Seen.{Seen, is_magic}
use Rattle.job_protocol.specs.TaskCommits.{Checking, Looking, Publishing, Reading, Renaming, Storing, TaskCommit, TaskCommitOver}
use Rattle.job_protocol.specs.Writes.{Marking, Recording, Write, WriteOver}
use Rattle.list_walk.specs.Walks.{last_of}
use Rattle.magic_paths.specs.Places.{TemporaryPlace}
use Rattle.s3_types.specs.declared.object.Object.{Object}
use Rattle.s3_types.specs.declared.request.Request.{Request}
use Rattle.std.specs.Ordering.{is_lt}
use Rattle.std.specs.Prelude.{Bool, List, Some, false, true, ℕ, [], ◌∷◌, ◌≡◌, ◌⊎◌}
use Rattle.job_model.specs.declared.ends.TaskEnd.TheVariants as tasks
use Rattle.job_protocol.specs.Writes as writes
use Rattle.job_protocol.specs.TaskCommits as commits

-- ---- what the driver ends

-- An attempt that has sent its publishing request knows this upload.
abbrev pub IsSent : (Who → Bool) → (Who → List Drawn) → ℕ → Type 0
IsSent sent drawn id = (a : Who) × (d : Drawn) × IsIn d (drawn a) × (d.upload ≡ id) × (sent a ≡ true)

-- Until the driver cleans up, each upload that it has ended is one of such an attempt.
abbrev pub Closed : Told → Type 0
Closed m = m.cleaned ≡ false → (id : ℕ) → m.ended id ≡ true → IsSent m.publish_sent m.drawn id

-- Each of these requests ends only uploads of attempts that have sent their publishing requests.
abbrev pub EndsSent : (Who → Bool) → (Who → List Drawn) → List Request → Type 0
EndsSent sent drawn [] = Unit {0}
EndsSent sent drawn (r ∷ rs) = ((id : ℕ) → ends r id ≡ true → IsSent sent drawn id) × EndsSent sent drawn rs

-- The rest of a revert ends only such uploads.
abbrev pub Reverts : (Who → Bool) → (Who → List Drawn) → Commit → Type 0
Reverts sent drawn (Reverting r rs n) = EndsSent sent drawn (r ∷ rs)
Reverts sent drawn _ = Unit {0}

-- ---- what an attempt has written

-- The record of a file exists.
abbrev pub HasRecord : Script → Seen → Who → File → Type 0
HasRecord w s a f = (x : Object) × (at_key w s.scene.content (record_key w a f) ≡ Some x)

-- The records of an attempt's files exist, except for these files.
abbrev pub HasRecords : Script → Seen → Who → List File → Type 0
HasRecords w s a left = (f : File) → IsIn f (files w a) → IsIn f left ⊎ HasRecord w s a f

-- An attempt's temporary file exists.
abbrev pub HasTemporary : Script → Seen → Who → Type 0
HasTemporary w s a = (bytes : List ℕ) × (at_path w s.scene (TemporaryPlace a.task a.attempt) ≡ Some bytes)

-- Some attempt has published the task.
abbrev pub HasPublished : Seen → ℕ → Type 0
HasPublished s t = (n : ℕ) × (s.last t ≡ Some n)

-- Each record of an attempt is among the keys that were listed, or comes after the last of them.
abbrev pub Listed : Script → Who → List (List ℕ) → Type 0
Listed w a keys = (f : File) → IsIn f (files w a) → IsIn (record_key w a f) keys
    ⊎ (is_lt (text_cmp (last_of keys) (record_key w a f)) ≡ true)

-- The end is not Gone.
abbrev pub NotGone : TaskEnd → Type 0
NotGone (tasks.Gone name) = ⊥
NotGone _ = Unit {0}

-- The records of the files that a write has finished exist.
abbrev pub WriteStands : Script → Seen → Who → Write → Type 0
WriteStands w s a (writes.Uploads f fs u) = HasRecords w s a (f ∷ fs)
WriteStands w s a (Marking f fs) = HasRecords w s a (f ∷ fs)
WriteStands w s a (Recording f fs) = HasRecords w s a (f ∷ fs)
WriteStands w s a (WriteOver end) = NotGone end × (end ≡ tasks.Done → is_magic w.committer ≡ true → HasRecords w s a [])

-- What a commit needs exists, given P, which says that the task was published, and whether a send of the present request was lost.
abbrev pub CommitStandsBy : Type 0 → Script → Seen → Who → Bool → TaskCommit → Type 0
CommitStandsBy P w s a repeated (Looking keys) = HasRecords w s a [] × Listed w a keys
CommitStandsBy P w s a repeated (Reading cs f fs) = HasRecords w s a [] × ((g : File) → IsIn g (f ∷ fs) → IsIn g (files w a))
CommitStandsBy P w s a repeated (Publishing cs) = Unit {0}
CommitStandsBy P w s a repeated (Checking d ds) = Unit {0}
CommitStandsBy P w s a repeated (commits.Uploads f fs u) = Unit {0}
CommitStandsBy P w s a repeated Storing = Unit {0}
-- The rename has not taken effect yet, or it has and its reply was lost.
CommitStandsBy P w s a repeated Renaming = HasTemporary w s a ⊎ ((repeated ≡ true) × P)
CommitStandsBy P w s a repeated (TaskCommitOver end) = NotGone end × (end ≡ tasks.Done → P)

-- What a commit needs exists, and the task was published if the commit needs that.
abbrev pub CommitStands : Script → Seen → Who → Bool → TaskCommit → Type 0
CommitStands w s a repeated t = CommitStandsBy (HasPublished s a.task) w s a repeated t

-- What an attempt's operation has written so far exists.
abbrev pub Stands : Script → Seen → Who → Operation → Type 0
Stands w s a (TheWrite t) = WriteStands w s a t.operation
Stands w s a (TheTaskCommit t) = CommitStands w s a t.repeated t.operation
Stands w s a _ = Unit {0}
