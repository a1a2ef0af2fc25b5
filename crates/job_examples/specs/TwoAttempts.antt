-- The run of one task with two attempts that commit one after the other. The job's commit chooses and publishes the later one, and a clean
-- leaves nothing.
use Rattle.job_examples.specs.Jobs.{attempt, commits_at, directory, done_task, job, lake, other, said, set_key, worker}
use Rattle.job_examples.specs.OneFile.{opening, setup_entries}
use Rattle.job_examples.specs.Runs.{Goes, Keeps, Text, commits_task, hello, lists, puts, reads_set, set_of, upload, writes}
use Rattle.job_model.specs.JobScript.{Script}
use Rattle.job_model.specs.declared.ends.EventEnd.{EventEnd}
use Rattle.job_model.specs.declared.ends.EventEnd.TheVariants.{Ended}
use Rattle.job_model.specs.declared.ends.Pick.{Pick}
use Rattle.job_model.specs.declared.events.Event.{Event}
use Rattle.job_model.specs.declared.events.Event.TheVariants.{Do}
use Rattle.job_model.specs.declared.events.Op.TheVariants.{Clean, Commit, Setup, Write}
use Rattle.job_protocol.specs.Scope.{NothingLeft}
use Rattle.job_protocol.specs.Seen.{seen}
use Rattle.job_protocol.specs.View.{object_at, view}
use Rattle.job_spec.specs.Ends.{commit_due}
use Rattle.job_spec.specs.Promise.{all_picks}
use Rattle.job_spec.specs.States.{commit_event, verdict}
use Rattle.job_spec.specs.Turns.{by_actor, since, until}
use Rattle.pending_json.specs.Pending.{Pending}
use Rattle.pending_json.specs.Trees.{success_tree}
use Rattle.pending_json.specs.declared.records.PendingSet.{PendingSet}
use Rattle.pending_json.specs.declared.records.SuccessMark.{SuccessMark}
use Rattle.retries.specs.Worn.{first_worn}
use Rattle.s3_types.specs.Moment.{moment}
use Rattle.s3_types.specs.Tags.{joined_tag}
use Rattle.s3_types.specs.declared.journal.Entry.{Entry}
use Rattle.s3_types.specs.declared.reply.PageEntry.TheVariants.{Object as Listed}
use Rattle.s3_types.specs.declared.reply.Reply.TheVariants.{Aborted, Completed, Deleted, Uploads}
use Rattle.s3_types.specs.declared.request.Actor.TheVariants.{Driver}
use Rattle.s3_types.specs.declared.request.Committer.TheVariants.{Magic}
use Rattle.s3_types.specs.declared.request.Mode.TheVariants.{Append}
use Rattle.s3_types.specs.declared.request.Request.TheVariants.{AbortUpload, CompleteUpload, DeleteObjects, ListUploads}
use Rattle.serde_json.specs.Written.{compact_text}
use Rattle.std.specs.Prelude.{List, None, Some, codes, false, length, true, ℕ, [], ◌++◌, ◌∷◌, ◌≡◌}
use Rattle.job_model.specs.declared.ends.SetupEnd.TheVariants as setups
use Rattle.job_model.specs.declared.ends.TaskEnd.TheVariants as tasks
use Rattle.job_model.specs.declared.ends.CommitEnd.TheVariants as commits
use Rattle.job_model.specs.declared.ends.CleanEnd.TheVariants as cleans
use Rattle.job_model.specs.declared.ends.OpEnd.TheVariants as ends

-- The text `world`.
abbrev pub world : Text
world = record { bytes = codes "world"; tag = record { digits = codes "7d793037a0760186574b0282f2f435e7"; parts = 0 } }

-- A job whose two attempts both write the file `p`.
abbrev pub with_events : List Event → Script
with_events events = job Magic Append 1 3 1 (attempt 0 0 ((codes "p", codes "hello") ∷ []) ∷ attempt 0 1 ((codes "p", codes "world") ∷ []) ∷
    []) events

-- The job's script.
abbrev pub script : Script
script = with_events (Do Driver Setup ∷ Do worker Write ∷ Do worker Commit ∷ Do other Write ∷ Do other Commit ∷ Do Driver Commit ∷ Do Driver
    Clean ∷ [])

-- The second attempt's magic directory.
abbrev pub second_directory : List ℕ
second_directory = codes "out/__magic/job-j1/tasks/0_1/__base/"

-- The first attempt's upload.
abbrev pub first_upload : Pending
first_upload = upload hello 0 0 (codes "p") 1

-- The second attempt's upload.
abbrev pub second_upload : Pending
second_upload = upload world 0 1 (codes "p") 2

-- The first attempt's set.
abbrev pub first_set : PendingSet
first_set = set_of 0 0 (first_upload ∷ [])

-- The second attempt's set.
abbrev pub second_set : PendingSet
second_set = set_of 0 1 (second_upload ∷ [])

-- The contents of `_SUCCESS`.
abbrev pub the_mark : SuccessMark
the_mark = record { job = codes "j1"; committer = Magic; files = codes "p" ∷ []; stamp = None }

-- The entries of the job's commit.
abbrev pub commit_entries : ℕ → List Entry
commit_entries k =
    reads_set k set_key second_set
    ∷ said k Driver (CompleteUpload lake (codes "out/p") 2 (record { number = 1; tag = world.tag } ∷ []))
    (Completed (joined_tag (world.tag ∷ [])))
    ∷ puts k Driver (codes "out/_SUCCESS") (compact_text (success_tree the_mark))
    ∷ []

-- The entries of the clean. It aborts the first attempt's upload and empties the job's magic directory.
abbrev pub clean_entries : ℕ → List Entry
clean_entries k =
    said k Driver (ListUploads lake (codes "out/") None 1000) (Uploads (record { key = codes "out/p"; upload = 1 } ∷ []) false)
    ∷ said k Driver (AbortUpload lake (codes "out/p") 1) Aborted
    ∷ lists k Driver (codes "out/__magic/job-j1/") (
    Listed set_key 246
    ∷ Listed (directory ++ codes "p") 0
    ∷ Listed (directory ++ codes "p.pending") 168
    ∷ Listed (second_directory ++ codes "p") 0
    ∷ Listed (second_directory ++ codes "p.pending") 168
    ∷ [])
    ∷ said k Driver (DeleteObjects lake (set_key ∷ (directory ++ codes "p") ∷ (directory ++ codes "p.pending") ∷
    (second_directory ++ codes "p") ∷ (second_directory ++ codes "p.pending") ∷ [])) Deleted
    ∷ []

-- The entries up to the end of the first attempt's commit.
abbrev pub first_entries : List Entry
first_entries =
    setup_entries
    ++ writes hello 2 worker directory (codes "p") first_upload
    ++ commits_task 3 worker directory first_upload set_key first_set

-- The journal, where the second attempt's write and commit, the job's commit and the clean are these events.
abbrev pub journal_of : ℕ → ℕ → ℕ → ℕ → List Entry
journal_of write task commit clean =
    first_entries
    ++ writes world write other second_directory (codes "p") second_upload
    ++ commits_task task other second_directory second_upload set_key second_set
    ++ commit_entries commit
    ++ clean_entries clean

-- The run's journal.
abbrev pub journal : List Entry
journal = journal_of 4 5 6 7

-- The ends of the run's events.
abbrev pub the_ends : List EventEnd
the_ends = Ended (ends.Setup setups.Done) ∷ done_task ∷ done_task ∷ done_task ∷ done_task ∷ Ended (ends.Commit commits.Committed) ∷ Ended
    (ends.Clean cleans.Done) ∷ []

-- The reported attempts.
abbrev pub the_picks : List Pick
the_picks = record { task = 0; attempt = 1 } ∷ []

-- What holds of a journal of both attempts whose commit is event k. The later set replaces the earlier one, the job's commit chooses and
-- publishes the later attempt, and a clean leaves nothing.
pub record Replaces (w : Script) (k : ℕ) (xs : List EventEnd) (journal : List Entry) : Type 0 where
  pub sent : length journal ≡ 24
  pub event : commit_event w xs ≡ Some k
  pub keeps : Keeps w (commits_at k) opening journal
  -- The second attempt's set replaces that of the first.
  pub first_published : (seen w (commits_at k) opening journal 10).last 0 ≡ Some 0
  pub second_published : (seen w (commits_at k) opening journal 17).last 0 ≡ Some 1
  -- The commit begins with the read of the set, and chooses the attempt that published last.
  pub not_begun : (seen w (commits_at k) opening journal 17).begun ≡ false
  pub begun : (seen w (commits_at k) opening journal 18).begun ≡ true
  pub picked : (seen w (commits_at k) opening journal 18).picks 0 ≡ Some 1
  pub picks : all_picks w opening journal xs ≡ the_picks
  -- Its last entry puts `_SUCCESS`, and the resulting end is Committed.
  pub unmarked : (seen w (commits_at k) opening journal 19).put_mark ≡ false
  pub marked : (seen w (commits_at k) opening journal 20).put_mark ≡ true
  pub due : commit_due w (seen w (commits_at k) opening journal 20).picks None (first_worn 3 (since k (by_actor Driver (until k journal))))
      ≡ commits.Committed
  -- No live upload is left, and no key in the job's magic directory. The file and `_SUCCESS` exist.
  pub nothing_left : NothingLeft Magic w (moment opening journal 24)
  pub shown : view w.dest (moment opening journal 24).content (codes "p") ≡ Some (codes "world")
  pub stands : object_at (moment opening journal 24).content lake (codes "out/_SUCCESS") ≡ Some
      (record { bytes = compact_text (success_tree the_mark); header = None })
  pub verdict : verdict w xs ≡ 0

-- The later attempt is chosen, readers see its file, and a clean leaves nothing of the job.
pub record TwoAttempts : Type 0 where
  pub replaces : Replaces script 6 the_ends journal
  pub setup : Goes script the_ends journal Driver Setup 1 (Some 0) (ends.Setup setups.Done)
  pub first_write : Goes script the_ends journal worker Write 2 (Some 0) (ends.Task tasks.Done)
  pub first_task : Goes script the_ends journal worker Commit 3 (Some 0) (ends.Task tasks.Done)
  pub second_write : Goes script the_ends journal other Write 4 None (ends.Task tasks.Done)
  pub second_task : Goes script the_ends journal other Commit 5 None (ends.Task tasks.Done)
  pub commit : Goes script the_ends journal Driver Commit 6 None (ends.Commit commits.Committed)
  pub clean : Goes script the_ends journal Driver Clean 7 None (ends.Clean cleans.Done)
