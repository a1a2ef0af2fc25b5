-- Two jobs at one destination, one file each, in one journal: what each of them sees.
use Rattle.job_examples.specs.FourFileLanes.{Goes, Prepared, Shows, completes, hellos, out, record_bytes}
use Rattle.job_examples.specs.FourFiles.{of_file}
use Rattle.job_examples.specs.Jobs.{attempt, before_commit, commits_at, doing, job, lake, said, setting, worker}
use Rattle.job_examples.specs.OneFile.{opening}
use Rattle.job_examples.specs.Runs.{hello, writes}
use Rattle.job_model.specs.JobScript.{Script}
use Rattle.job_model.specs.declared.ends.EventEnd.{EventEnd}
use Rattle.job_model.specs.declared.ends.EventEnd.TheVariants.{Ended}
use Rattle.job_model.specs.declared.events.Event.{Event}
use Rattle.job_model.specs.declared.events.Event.TheVariants.{Do}
use Rattle.job_protocol.specs.Seen.{Seen, seen}
use Rattle.job_protocol.specs.View.{object_at}
use Rattle.job_spec.specs.Ends.{commit_due}
use Rattle.job_spec.specs.Entries.{ZeroRename}
use Rattle.job_spec.specs.Eyes.{in_eyes}
use Rattle.job_spec.specs.Follows.{OpFollows}
use Rattle.job_spec.specs.States.{verdict}
use Rattle.job_spec.specs.Turns.{by_actor, since, until}
use Rattle.pending_json.specs.Trees.{set_tree, success_tree}
use Rattle.pending_json.specs.declared.records.PendingSet.{PendingSet}
use Rattle.retries.specs.Worn.{first_worn}
use Rattle.s3_types.specs.Moment.{IsHonest, moment}
use Rattle.s3_types.specs.Tags.{plain_tag}
use Rattle.s3_types.specs.declared.journal.Entry.{Entry}
use Rattle.s3_types.specs.declared.object.Object.{Object}
use Rattle.s3_types.specs.declared.reply.PageEntry.TheVariants.{Object as Listed}
use Rattle.s3_types.specs.declared.reply.Refusal.TheVariants.{NoSuchKey, NoSuchUpload}
use Rattle.s3_types.specs.declared.reply.Reply.TheVariants.{Deleted, Object as Read, Page, Refused, Stored}
use Rattle.s3_types.specs.declared.request.Actor.TheVariants.{Driver}
use Rattle.s3_types.specs.declared.request.Committer.TheVariants.{Magic}
use Rattle.s3_types.specs.declared.request.Mode.TheVariants.{Append}
use Rattle.s3_types.specs.declared.request.Request.TheVariants.{AbortUpload, DeleteObject, DeleteObjects, GetObject, HeadObject, ListPage}
use Rattle.s3_types.specs.declared.request.Request.TheVariants.{PutObject}
use Rattle.serde_json.specs.Written.{compact_text}
use Rattle.std.specs.Prelude.{Bool, List, None, Option, Some, codes, false, length, nat_le, not, true, ℕ, [], ◌++◌, ◌+◌, ◌||◌, ◌∷◌, ◌≡◌}
use Rattle.job_model.specs.declared.events.Op.TheVariants as ops
use Rattle.job_model.specs.declared.ends.CommitEnd.TheVariants as commits
use Rattle.job_model.specs.declared.ends.CleanEnd.TheVariants as cleans
use Rattle.job_model.specs.declared.ends.OpEnd.TheVariants as ends

-- ---- the jobs

-- The script of a job with one file.
abbrev pub script : List ℕ → List ℕ → List Event → Script
script id name later = record (job Magic Append 1 3 1 (attempt 0 0 ((name, codes "hello") ∷ []) ∷ [])
    (Do Driver ops.Setup ∷ Do worker ops.Write ∷ Do worker ops.Commit ∷ Do Driver ops.Commit ∷ later)) { job = id }

-- The first job, with the file `x`.
abbrev pub ja : Script
ja = script (codes "ja") (codes "x") (Do Driver ops.Clean ∷ [])

-- The second job, with the file `y`.
abbrev pub jb : Script
jb = script (codes "jb") (codes "y") []

-- ---- a job's keys and records

-- The prefix of a job's magic directory.
abbrev pub magic : List ℕ → List ℕ
magic id = codes "out/__magic/job-" ++ (id ++ codes "/")

-- The key of a file's marker.
abbrev pub below_attempt : List ℕ → List ℕ → List ℕ
below_attempt id name = magic id ++ (codes "tasks/0_0/__base/" ++ name)

-- The key of a file's record.
abbrev pub pending : List ℕ → List ℕ → List ℕ
pending id name = below_attempt id (name ++ codes ".pending")

-- The key of the task's set.
abbrev pub set_key : List ℕ → List ℕ
set_key id = magic id ++ codes "sets/task_0.pendingset"

-- A job's set.
abbrev pub set_of : List ℕ → List ℕ → ℕ → PendingSet
set_of id name upload = record { job = id; task = 0; attempt = 0; commits = of_file name upload ∷ [] }

-- The text of the set.
abbrev pub set_bytes : List ℕ → List ℕ → ℕ → List ℕ
set_bytes id name upload = compact_text (set_tree (set_of id name upload))

-- The text of `_SUCCESS`.
abbrev pub mark_bytes : List ℕ → List ℕ → List ℕ
mark_bytes id name = compact_text (success_tree (record { job = id; committer = Magic; files = name ∷ []; stamp = None }))

-- ---- a job's entries: its set-up, its write and its task's commit are the events from k on

-- A job's entries up to its task's commit; its set-up is event k.
abbrev pub prepares : List ℕ → List ℕ → ℕ → ℕ → List Entry
prepares id name upload k =
    said k Driver (HeadObject lake (codes "out")) (Refused NoSuchKey)
    ∷ said k Driver (DeleteObject lake (codes "out/_SUCCESS")) Deleted
    ∷ said k Driver (ListPage lake (magic id) false [] 1000) (Page [] false)
    ∷ (writes hello (k + 1) worker (below_attempt id []) name (of_file name upload) ++
    said (k + 2) worker (ListPage lake (below_attempt id []) false [] 1000) (Page
    (Listed (below_attempt id name) 0 ∷ Listed (pending id name) 168 ∷ []) false)
    ∷ said (k + 2) worker (GetObject lake (pending id name)) (Read (record_bytes name upload) None)
    ∷ said (k + 2) worker (PutObject lake (set_key id) (set_bytes id name upload) None) (Stored (plain_tag (set_bytes id name upload)))
    ∷ [])

-- The driver's read of a job's set.
abbrev pub reads : List ℕ → List ℕ → ℕ → ℕ → Entry
reads id name upload k = said k Driver (GetObject lake (set_key id)) (Read (set_bytes id name upload) None)

-- The put of a job's `_SUCCESS`.
abbrev pub marks : List ℕ → List ℕ → ℕ → Entry
marks id name k = said k Driver (PutObject lake (codes "out/_SUCCESS") (mark_bytes id name) None) (Stored (plain_tag (mark_bytes id name)))

-- A clean that spares the other job's uploads. It lists the job's keys, aborts the uploads that its records name, and deletes the keys. A
-- job that is alone has no such clean: it lists all live uploads below the destination.
abbrev pub clean_entries : List Entry
clean_entries =
    said 9 Driver (ListPage lake (magic (codes "ja")) false [] 1000) (Page (
    Listed (set_key (codes "ja")) (length (set_bytes (codes "ja") (codes "x") 1))
    ∷ Listed (below_attempt (codes "ja") (codes "x")) 0
    ∷ Listed (pending (codes "ja") (codes "x")) 168
    ∷ []) false)
    ∷ said 9 Driver (GetObject lake (pending (codes "ja") (codes "x"))) (Read (record_bytes (codes "x") 1) None)
    ∷ said 9 Driver (AbortUpload lake (out (codes "x")) 1) (Refused NoSuchUpload)
    ∷ said 9 Driver (DeleteObjects lake (set_key (codes "ja") ∷ below_attempt (codes "ja") (codes "x") ∷ pending (codes "ja") (codes "x") ∷
    [])) Deleted
    ∷ []

-- ---- the run: three events of ja, four of jb, two of ja

-- The entries up to the read of jb's commit, send 21.
abbrev pub quiet_entries : List Entry
quiet_entries = prepares (codes "ja") (codes "x") 1 1 ++ prepares (codes "jb") (codes "y") 2 4 ++ reads (codes "jb") (codes "y") 2 7 ∷ []

-- The entries after the read of jb's commit.
abbrev pub later_entries : List Entry
later_entries =
    completes 7 (codes "y") 2
    ∷ marks (codes "jb") (codes "y") 7
    ∷ reads (codes "ja") (codes "x") 1 8
    ∷ completes 8 (codes "x") 1
    ∷ marks (codes "ja") (codes "x") 8
    ∷ clean_entries

-- The run's journal.
abbrev pub journal : List Entry
journal = quiet_entries ++ later_entries

-- True for the events of ja. Events 4 to 7 are those of jb.
abbrev pub mine : ℕ → Bool
mine n = nat_le n 3 || nat_le 8 n

-- The journal as ja reads it.
abbrev pub eyes : List Entry
eyes = in_eyes mine journal

-- The ends of ja's events.
abbrev pub the_ends : List EventEnd
the_ends = before_commit ++ Ended (ends.Commit commits.Committed) ∷ Ended (ends.Clean cleans.Done) ∷ []

-- What ja's journal shows after the first m entries.
abbrev pub at : ℕ → Seen
at m = seen ja (commits_at 4) opening eyes m

-- The object at a key after the first m entries.
abbrev pub object_then : ℕ → List ℕ → Option Object
object_then m key = object_at (moment opening eyes m).content lake key

-- Holds if the object at a key has these bytes and no header after the first m entries.
abbrev pub Holds : ℕ → List ℕ → List ℕ → Type 0
Holds m key bytes = object_then m key ≡ Some (record { bytes = bytes; header = None })

-- The three keys below jb's magic directory have the objects that jb put there.
pub record Kept (m : ℕ) : Type 0 where
  pub set : Holds m (set_key (codes "jb")) (set_bytes (codes "jb") (codes "y") 2)
  pub marker : object_then m (below_attempt (codes "jb") (codes "y")) ≡ Some (record { bytes = []; header = Some 5 })
  pub pending : Holds m (pending (codes "jb") (codes "y")) (record_bytes (codes "y") 2)

-- What ja keeps and sees beside jb.
pub record TwoJobs : Type 0 where
  pub sent : length eyes ≡ 30
  pub honest : IsHonest opening eyes
  -- No entry of ja copies, and none changes anything outside the destination, whatever jb sends.
  pub zero_rename : ZeroRename ja opening eyes
  pub prepared : Prepared ja eyes
  pub commit : Goes ja eyes Driver ops.Commit 4 None 4 (Some (ends.Commit commits.Committed))
  -- A clean of a job that is alone sends other requests: it would abort the uploads that the other job has not completed.
  pub other_clean : OpFollows (setting ja) Driver (doing ops.Clean 5 None) (by_actor Driver eyes) → ⊥
  pub worn : first_worn 3 (since 4 (by_actor Driver (until 4 eyes))) ≡ None
  pub due : commit_due ja (at 26).picks None None ≡ commits.Committed
  pub verdict : verdict ja the_ends ≡ 0
  -- Neither jb's commit nor its `_SUCCESS` counts as ja's.
  pub not_begun : (at 23).begun ≡ false
  pub begun : (at 24).begun ≡ true
  pub unpicked : (at 23).picks 0 ≡ None
  pub picked : (at 24).picks 0 ≡ Some 0
  pub unmarked : (at 25).put_mark ≡ false
  pub marked : (at 26).put_mark ≡ true
  -- Readers see y after jb's commit and x after ja's. The later `_SUCCESS` replaces the earlier one.
  pub none : Shows ja eyes 21 []
  pub one : Shows ja eyes 22 (hellos (codes "y" ∷ []))
  pub two : Shows ja eyes 25 (hellos (codes "x" ∷ codes "y" ∷ []))
  pub whole : Shows ja eyes 30 (hellos (codes "x" ∷ codes "y" ∷ []))
  pub first_mark : Holds 23 (codes "out/_SUCCESS") (mark_bytes (codes "jb") (codes "y"))
  pub last_mark : Holds 30 (codes "out/_SUCCESS") (mark_bytes (codes "ja") (codes "x"))
  -- After its clean ja's own keys are gone, and those of jb stay.
  pub gone : object_then 30 (set_key (codes "ja")) ≡ None
  pub before : Kept 26
  pub stay : Kept 30

-- The journal as jb reads it.
abbrev pub other_eyes : List Entry
other_eyes = in_eyes (λ n. not (mine n)) journal

-- What jb keeps and sees beside ja.
pub record TheOther : Type 0 where
  pub zero_rename : ZeroRename jb opening other_eyes
  pub prepared : Prepared jb other_eyes
  pub commit : Goes jb other_eyes Driver ops.Commit 4 None 4 (Some (ends.Commit commits.Committed))
  pub not_begun : (seen jb (commits_at 4) opening other_eyes 20).begun ≡ false
  pub begun : (seen jb (commits_at 4) opening other_eyes 21).begun ≡ true
  pub marked : (seen jb (commits_at 4) opening other_eyes 23).put_mark ≡ true
