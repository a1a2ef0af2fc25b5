-- The run of one attempt with four files, in which the driver is killed after two completions of its commit.
use Rattle.job_examples.specs.Jobs.{attempt, commits_at, directory, doing as begun_so, job, lake, set_key, setting, worker}
use Rattle.job_examples.specs.OneFile.{opening, setup_entries}
use Rattle.job_examples.specs.Runs.{Goes, Keeps, completes, held, hello, lists, puts_set, reads_record, reads_set, set_of, upload, writes}
use Rattle.job_model.specs.JobScript.{Script}
use Rattle.job_model.specs.declared.ends.EventEnd.{EventEnd}
use Rattle.job_model.specs.declared.ends.EventEnd.TheVariants.{Done, Ended}
use Rattle.job_model.specs.declared.events.Event.TheVariants.{Do, Kill, Start, Step}
use Rattle.job_model.specs.declared.events.Op.TheVariants.{Commit, Setup, Write}
use Rattle.job_protocol.specs.Scope.{upload_at}
use Rattle.job_protocol.specs.Seen.{Seen, seen}
use Rattle.job_protocol.specs.View.{object_at, view}
use Rattle.job_spec.specs.Follows.{OpFollows, op_over}
use Rattle.job_spec.specs.States.{commit_event, dead, past, refusal, verdict}
use Rattle.job_spec.specs.Turns.{Turns, by_actor, of_event}
use Rattle.pending_json.specs.Pending.{Pending}
use Rattle.pending_json.specs.declared.records.PendingSet.{PendingSet}
use Rattle.s3_types.specs.Moment.{moment}
use Rattle.s3_types.specs.declared.journal.Entry.{Entry}
use Rattle.s3_types.specs.declared.reply.PageEntry.{PageEntry}
use Rattle.s3_types.specs.declared.reply.PageEntry.TheVariants.{Object as Listed}
use Rattle.s3_types.specs.declared.request.Actor.TheVariants.{Driver}
use Rattle.s3_types.specs.declared.request.Committer.TheVariants.{Magic}
use Rattle.s3_types.specs.declared.request.Mode.TheVariants.{Append}
use Rattle.std.specs.Prelude.{List, None, Some, codes, false, length, take, true, ℕ, [], ◌++◌, ◌∷◌, ◌≡◌}
use Rattle.job_model.specs.declared.ends.SetupEnd.TheVariants as setups
use Rattle.job_model.specs.declared.ends.TaskEnd.TheVariants as tasks
use Rattle.job_model.specs.declared.ends.OpEnd.TheVariants as ends
use Rattle.job_model.specs.declared.states.ActorStage.TheVariants as stage

-- The job's script.
abbrev pub script : Script
script = job Magic Append 1 3 1
    (attempt 0 0 ((codes "a", codes "hello") ∷ (codes "b", codes "hello") ∷ (codes "c", codes "hello") ∷ (codes "d", codes "hello") ∷ []) ∷
    [])
    (Do Driver Setup ∷ Do worker Write ∷ Do worker Commit ∷ Start Driver Commit ∷ Step Driver 3 ∷ Kill Driver ∷ [])

-- The upload of a file.
abbrev pub of_file : List ℕ → ℕ → Pending
of_file path id = upload hello 0 0 path id

-- The task's set.
abbrev pub the_set : PendingSet
the_set = set_of 0 0 (of_file (codes "a") 1 ∷ of_file (codes "b") 2 ∷ of_file (codes "c") 3 ∷ of_file (codes "d") 4 ∷ [])

-- The listing of a file's marker and record, followed by others.
abbrev pub listed : List ℕ → List PageEntry → List PageEntry
listed path others = Listed (directory ++ path) 0 ∷ Listed (directory ++ path ++ codes ".pending") 168 ∷ others

-- The entries of the set-up, and those of the attempt until the end of its commit.
abbrev pub attempt_entries : List Entry
attempt_entries =
    setup_entries
    ++ writes hello 2 worker directory (codes "a") (of_file (codes "a") 1)
    ++ writes hello 2 worker directory (codes "b") (of_file (codes "b") 2)
    ++ writes hello 2 worker directory (codes "c") (of_file (codes "c") 3)
    ++ writes hello 2 worker directory (codes "d") (of_file (codes "d") 4)
    ++ lists 3 worker directory (listed (codes "a") (listed (codes "b") (listed (codes "c") (listed (codes "d") []))))
    ∷ reads_record 3 worker directory (codes "a") (of_file (codes "a") 1)
    ∷ reads_record 3 worker directory (codes "b") (of_file (codes "b") 2)
    ∷ reads_record 3 worker directory (codes "c") (of_file (codes "c") 3)
    ∷ reads_record 3 worker directory (codes "d") (of_file (codes "d") 4)
    ∷ puts_set 3 worker set_key the_set
    ∷ []

-- The journal. In the step of its commit the driver reads the set and completes two uploads.
abbrev pub journal : List Entry
journal = attempt_entries ++ reads_set 5 set_key the_set ∷ completes 5 (codes "out/a") 1 ∷ completes 5 (codes "out/b") 2 ∷ []

-- The ends of the run's events.
abbrev pub the_ends : List EventEnd
the_ends = Ended (ends.Setup setups.Done) ∷ Ended (ends.Task tasks.Done) ∷ Ended (ends.Task tasks.Done) ∷ Done ∷ Done ∷ Done ∷ []

-- What the journal shows after the first m entries.
abbrev pub at : ℕ → Seen
at m = seen script (commits_at 4) opening journal m

-- After the driver is killed, readers see two whole files, and there is no `_SUCCESS`.
pub record FourFiles : Type 0 where
  pub sent : length journal ≡ 28
  pub event : commit_event script the_ends ≡ Some 4
  pub keeps : Keeps script (commits_at 4) opening journal
  pub setup : Goes script the_ends journal Driver Setup 1 (Some 0) (ends.Setup setups.Done)
  pub write : Goes script the_ends journal worker Write 2 (Some 0) (ends.Task tasks.Done)
  pub task : Goes script the_ends journal worker Commit 3 (Some 0) (ends.Task tasks.Done)
  -- The commit begins without a request, and sends three in its step. It sends its own requests so far, and is not over.
  pub start : Turns script (past script (take 3 the_ends)).state (Start Driver Commit) Done (of_event 4 journal)
  pub step : Turns script (past script (take 4 the_ends)).state (Step Driver 3) Done (of_event 5 journal)
  pub dies : refusal (past script (take 5 the_ends)).state (Kill Driver) ≡ None
  pub doing : (past script the_ends).doing Driver ≡ Some (begun_so Commit 4 None)
  pub commit : OpFollows (setting script) Driver (begun_so Commit 4 None) (by_actor Driver journal)
  pub unended : op_over (setting script) Driver (begun_so Commit 4 None) (by_actor Driver journal) ≡ None
  -- It begins with the read of the set, which chooses the attempt.
  pub not_begun : (at 25).begun ≡ false
  pub begun : (at 26).begun ≡ true
  pub picked : (at 26).picks 0 ≡ Some 0
  -- Readers see no file until then, and two whole ones at the end, without `_SUCCESS`.
  pub before : (p : List ℕ) → view script.dest (moment opening journal 26).content p ≡ None
  pub first : view script.dest (moment opening journal 28).content (codes "a") ≡ Some (codes "hello")
  pub second : view script.dest (moment opening journal 28).content (codes "b") ≡ Some (codes "hello")
  pub third : view script.dest (moment opening journal 28).content (codes "c") ≡ None
  pub fourth : view script.dest (moment opening journal 28).content (codes "d") ≡ None
  pub unmarked : object_at (moment opening journal 28).content lake (codes "out/_SUCCESS") ≡ None
  -- The other two uploads are live.
  pub third_live : upload_at (moment opening journal 28).content lake 3 ≡ Some (held (codes "c"))
  pub fourth_live : upload_at (moment opening journal 28).content lake 4 ≡ Some (held (codes "d"))
  pub driver : (past script the_ends).state Driver ≡ dead stage.Committing
  pub verdict : verdict script the_ends ≡ 1
