-- The run of a staging attempt whose partition already has a file, with the mode fail. Its task's commit finds the conflict, and readers
-- see no change.
use Rattle.job_examples.specs.Jobs.{attempt, commits_at, job, lake, said, worker}
use Rattle.job_examples.specs.Runs.{Goes, Keeps}
use Rattle.job_model.specs.JobScript.{Script}
use Rattle.job_model.specs.declared.ends.EventEnd.{EventEnd}
use Rattle.job_model.specs.declared.ends.EventEnd.TheVariants.{Ended}
use Rattle.job_model.specs.declared.events.Event.TheVariants.{Do}
use Rattle.job_model.specs.declared.events.Op.TheVariants.{Abort, Commit, Setup, Write}
use Rattle.job_protocol.specs.Seen.{Seen, seen}
use Rattle.job_protocol.specs.View.{Same, view}
use Rattle.job_spec.specs.Ends.{commit_due}
use Rattle.job_spec.specs.States.{commit_event, verdict}
use Rattle.job_spec.specs.Turns.{by_actor, since}
use Rattle.retries.specs.Worn.{first_worn}
use Rattle.s3_types.specs.Moment.{moment}
use Rattle.s3_types.specs.Store.{Content}
use Rattle.s3_types.specs.declared.journal.Entry.{Entry}
use Rattle.s3_types.specs.declared.object.Object.{Object}
use Rattle.s3_types.specs.declared.reply.PageEntry.TheVariants.{Object as Listed}
use Rattle.s3_types.specs.declared.reply.Refusal.TheVariants.{NoSuchKey}
use Rattle.s3_types.specs.declared.reply.Reply.TheVariants.{Deleted, Page, Refused}
use Rattle.s3_types.specs.declared.request.Actor.TheVariants.{Driver}
use Rattle.s3_types.specs.declared.request.Committer.TheVariants.{Partitioned}
use Rattle.s3_types.specs.declared.request.Mode.TheVariants.{Fail}
use Rattle.s3_types.specs.declared.request.Request.TheVariants.{DeleteObject, HeadObject, ListPage}
use Rattle.std.specs.Prelude.{List, None, Some, codes, false, length, ℕ, [], ◌∷◌, ◌≡◌}
use Rattle.std.specs.FinMap as fin
use Rattle.job_model.specs.declared.ends.SetupEnd.TheVariants as setups
use Rattle.job_model.specs.declared.ends.TaskEnd.TheVariants as tasks
use Rattle.job_model.specs.declared.ends.CommitEnd.TheVariants as commits
use Rattle.job_model.specs.declared.ends.OpEnd.TheVariants as ends

-- The job's script.
abbrev pub script : Script
script = job Partitioned Fail 1 3 1 (attempt 0 0 ((codes "d=1/x", codes "hello") ∷ []) ∷ [])
    (Do Driver Setup ∷ Do worker Write ∷ Do worker Commit ∷ Do worker Abort ∷ Do Driver Commit ∷ [])

-- The file that exists in the partition.
abbrev pub old_file : Object
old_file = record { bytes = codes "x"; header = None }

-- A store in which readers see a file in the partition.
abbrev pub opening : Content
opening = record {
  buckets = fin.insert fin.empty lake (record { objects = fin.insert fin.empty (codes "out/d=1/a") old_file; uploads = fin.empty });
  next = 1;
  minimum = 5242880;
}

-- The journal: the set-up and the check of the partition. The write, the abort and the job's commit send nothing.
abbrev pub journal : List Entry
journal =
    said 1 Driver (HeadObject lake (codes "out")) (Refused NoSuchKey)
    ∷ said 1 Driver (DeleteObject lake (codes "out/_SUCCESS")) Deleted
    ∷ said 3 worker (ListPage lake (codes "out/d=1/") false [] 1) (Page (Listed (codes "out/d=1/a") 1 ∷ []) false)
    ∷ []

-- The ends of the run's events.
abbrev pub the_ends : List EventEnd
the_ends = Ended (ends.Setup setups.Done) ∷ Ended (ends.Task tasks.Done) ∷ Ended (ends.Task (tasks.Conflict (codes "d=1"))) ∷ Ended
    (ends.Task tasks.Done) ∷ Ended (ends.Commit (commits.Missing 0)) ∷ []

-- What the journal shows after the first m entries.
abbrev pub at : ℕ → Seen
at m = seen script (commits_at 5) opening journal m

-- The task's commit ends with the conflict, and readers see the same files as before.
pub record Taken : Type 0 where
  pub sent : length journal ≡ 3
  pub event : commit_event script the_ends ≡ Some 5
  pub keeps : Keeps script (commits_at 5) opening journal
  pub setup : Goes script the_ends journal Driver Setup 1 (Some 0) (ends.Setup setups.Done)
  pub write : Goes script the_ends journal worker Write 2 (Some 0) (ends.Task tasks.Done)
  pub task : Goes script the_ends journal worker Commit 3 (Some 0) (ends.Task (tasks.Conflict (codes "d=1")))
  -- The attempt has nothing to abort, and its abort is Done, not Kept.
  pub abort : Goes script the_ends journal worker Abort 4 (Some 0) (ends.Task tasks.Done)
  -- The job's commit misses the task, and the resulting end is Missing.
  pub commit : Goes script the_ends journal Driver Commit 5 (Some 0) (ends.Commit (commits.Missing 0))
  pub unpublished : (at 3).last 0 ≡ None
  pub not_begun : (at 3).begun ≡ false
  pub due : commit_due script (at 3).picks (Some 0) (first_worn 3 (since 5 (by_actor Driver journal))) ≡ commits.Missing 0
  -- Readers see the opening file and no other during the whole run.
  pub shows : (m : ℕ) → Same (view script.dest (moment opening journal m).content) (view script.dest opening)
  pub shown : view script.dest opening (codes "d=1/a") ≡ Some (codes "x")
  pub verdict : verdict script the_ends ≡ 1
