-- The run of two tasks that both write the file `p`. The job's commit finds that they share it, and readers see no file.
use Rattle.job_examples.specs.Jobs.{attempt, commits_at, directory, done_task, job, lake, worker}
use Rattle.job_examples.specs.OneFile.{opening, setup_entries}
use Rattle.job_examples.specs.Runs.{Goes, Keeps, commits_task, held, hello, reads_set, set_of, upload, writes}
use Rattle.job_model.specs.JobScript.{Script}
use Rattle.job_model.specs.declared.ends.EventEnd.{EventEnd}
use Rattle.job_model.specs.declared.ends.EventEnd.TheVariants.{Ended}
use Rattle.job_model.specs.declared.events.Event.TheVariants.{Do}
use Rattle.job_model.specs.declared.events.Op.TheVariants.{Commit, Setup, Write}
use Rattle.job_protocol.specs.Scope.{upload_at}
use Rattle.job_protocol.specs.Seen.{Seen, seen}
use Rattle.job_protocol.specs.View.{view}
use Rattle.job_spec.specs.Ends.{commit_due}
use Rattle.job_spec.specs.States.{commit_event, verdict}
use Rattle.job_spec.specs.Turns.{by_actor, since}
use Rattle.pending_json.specs.Pending.{Pending}
use Rattle.pending_json.specs.declared.records.PendingSet.{PendingSet}
use Rattle.retries.specs.Worn.{first_worn}
use Rattle.s3_types.specs.Moment.{moment}
use Rattle.s3_types.specs.declared.journal.Entry.{Entry}
use Rattle.s3_types.specs.declared.request.Actor.{Actor}
use Rattle.s3_types.specs.declared.request.Actor.TheVariants.{Attempt, Driver}
use Rattle.s3_types.specs.declared.request.Committer.TheVariants.{Magic}
use Rattle.s3_types.specs.declared.request.Mode.TheVariants.{Append}
use Rattle.std.specs.Prelude.{List, None, Some, codes, false, length, true, ℕ, [], ◌++◌, ◌∷◌, ◌≡◌}
use Rattle.job_model.specs.declared.ends.SetupEnd.TheVariants as setups
use Rattle.job_model.specs.declared.ends.TaskEnd.TheVariants as tasks
use Rattle.job_model.specs.declared.ends.CommitEnd.TheVariants as commits
use Rattle.job_model.specs.declared.ends.OpEnd.TheVariants as ends

-- The other attempt.
abbrev pub other : Actor
other = Attempt 1 0

-- The job's script.
abbrev pub script : Script
script = job Magic Append 2 3 1
    (attempt 0 0 ((codes "p", codes "hello") ∷ []) ∷ attempt 1 0 ((codes "p", codes "hello") ∷ []) ∷ [])
    (Do Driver Setup ∷ Do worker Write ∷ Do other Write ∷ Do worker Commit ∷ Do other Commit ∷ Do Driver Commit ∷ [])

-- The second attempt's magic directory.
abbrev pub second_directory : List ℕ
second_directory = codes "out/__magic/job-j1/tasks/1_0/__base/"

-- The first attempt's upload.
abbrev pub first_upload : Pending
first_upload = upload hello 0 0 (codes "p") 1

-- The second attempt's upload.
abbrev pub second_upload : Pending
second_upload = upload hello 1 0 (codes "p") 2

-- The first attempt's set.
abbrev pub first_set : PendingSet
first_set = set_of 0 0 (first_upload ∷ [])

-- The second attempt's set.
abbrev pub second_set : PendingSet
second_set = set_of 1 0 (second_upload ∷ [])

-- The journal: both attempts write and commit, and the driver reads both sets.
abbrev pub journal : List Entry
journal =
    setup_entries
    ++ writes hello 2 worker directory (codes "p") first_upload
    ++ writes hello 3 other second_directory (codes "p") second_upload
    ++ commits_task 4 worker directory first_upload (codes "out/__magic/job-j1/sets/task_0.pendingset") first_set
    ++ commits_task 5 other second_directory second_upload (codes "out/__magic/job-j1/sets/task_1.pendingset") second_set
    ++ reads_set 6 (codes "out/__magic/job-j1/sets/task_0.pendingset") first_set
    ∷ reads_set 6 (codes "out/__magic/job-j1/sets/task_1.pendingset") second_set
    ∷ []

-- The ends of the run's events.
abbrev pub the_ends : List EventEnd
the_ends = Ended (ends.Setup setups.Done) ∷ done_task ∷ done_task ∷ done_task ∷ done_task ∷ Ended
    (ends.Commit (commits.SamePath (codes "p") 0 1)) ∷ []

-- What the journal shows after the first m entries.
abbrev pub at : ℕ → Seen
at m = seen script (commits_at 6) opening journal m

-- The commit ends with SamePath, and readers see no file.
pub record SharedPath : Type 0 where
  pub sent : length journal ≡ 19
  pub event : commit_event script the_ends ≡ Some 6
  pub keeps : Keeps script (commits_at 6) opening journal
  pub setup : Goes script the_ends journal Driver Setup 1 (Some 0) (ends.Setup setups.Done)
  pub first_write : Goes script the_ends journal worker Write 2 (Some 0) (ends.Task tasks.Done)
  pub second_write : Goes script the_ends journal other Write 3 (Some 0) (ends.Task tasks.Done)
  pub first_task : Goes script the_ends journal worker Commit 4 (Some 0) (ends.Task tasks.Done)
  pub second_task : Goes script the_ends journal other Commit 5 (Some 1) (ends.Task tasks.Done)
  pub commit : Goes script the_ends journal Driver Commit 6 None (ends.Commit (commits.SamePath (codes "p") 0 1))
  -- The commit begins with the read of the first set. After the read of the second one it has chosen both tasks' attempts.
  pub not_begun : (at 17).begun ≡ false
  pub begun : (at 18).begun ≡ true
  pub first_pick : (at 18).picks 0 ≡ Some 0
  pub unpicked : (at 18).picks 1 ≡ None
  pub second_pick : (at 19).picks 1 ≡ Some 0
  -- It does not put `_SUCCESS`, and the resulting end is SamePath.
  pub unmarked : (at 19).put_mark ≡ false
  pub due : commit_due script (at 19).picks None (first_worn 3 (since 6 (by_actor Driver journal))) ≡ commits.SamePath (codes "p") 0 1
  -- Readers never see a file.
  pub shows : (m : ℕ) (p : List ℕ) → view script.dest (moment opening journal m).content p ≡ None
  -- Both uploads are live at the end.
  pub first_live : upload_at (moment opening journal 19).content lake 1 ≡ Some (held (codes "p"))
  pub second_live : upload_at (moment opening journal 19).content lake 2 ≡ Some (held (codes "p"))
  pub verdict : verdict script the_ends ≡ 1
