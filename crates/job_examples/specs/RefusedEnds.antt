-- Wrong ends of operations, and a run after which readers see the files of two attempts of one task.
use Rattle.job_examples.specs.Jobs.{attempt, commits_at, done_setup, done_task, entry, hello_tag, job, lake, other, said, worker}
use Rattle.job_examples.specs.OneFile.{attempt_entries, journal, opening, setting}
use Rattle.job_examples.specs.OneFinished.{the_ends}
use Rattle.job_examples.specs.Runs.{completes, hello, set_of, upload}
use Rattle.job_model.specs.JobScript.{Script}
use Rattle.job_model.specs.declared.ends.EventEnd.{EventEnd}
use Rattle.job_model.specs.declared.ends.EventEnd.TheVariants.{Done, Ended}
use Rattle.job_model.specs.declared.events.Event.TheVariants.{Do, Kill, Restart}
use Rattle.job_spec.specs.Follows.{Plays}
use Rattle.job_spec.specs.Headline.{Always}
use Rattle.job_spec.specs.Promise.{CommitsEnd}
use Rattle.pending_json.specs.Trees.{set_tree, success_tree}
use Rattle.pending_json.specs.declared.records.PendingSet.{PendingSet}
use Rattle.pending_json.specs.declared.records.SuccessMark.{SuccessMark}
use Rattle.s3_types.specs.Tags.{plain_tag}
use Rattle.s3_types.specs.declared.journal.Entry.{Entry}
use Rattle.s3_types.specs.declared.journal.Outcome.TheVariants.{ReplyLost}
use Rattle.s3_types.specs.declared.reply.Reply.TheVariants.{Aborted, Deleted, Object, Part, Stored, Upload}
use Rattle.s3_types.specs.declared.request.Actor.{Actor}
use Rattle.s3_types.specs.declared.request.Actor.TheVariants.{Driver}
use Rattle.s3_types.specs.declared.request.Committer.TheVariants.{Magic}
use Rattle.s3_types.specs.declared.request.Mode.TheVariants.{Append}
use Rattle.s3_types.specs.declared.request.Request.TheVariants.{AbortUpload, CompleteUpload, CreateUpload, DeleteObject, GetObject}
use Rattle.s3_types.specs.declared.request.Request.TheVariants.{PutObject, UploadPart}
use Rattle.serde_json.specs.Written.{compact_text}
use Rattle.std.specs.Prelude.{List, None, codes, ℕ, [], ◌++◌, ◌∷◌}
use Rattle.job_model.specs.declared.events.Op.TheVariants as ops
use Rattle.job_model.specs.declared.ends.CommitEnd.TheVariants as commits
use Rattle.job_model.specs.declared.ends.CleanEnd.TheVariants as cleans
use Rattle.job_model.specs.declared.ends.FaultStage.TheVariants as stages
use Rattle.job_model.specs.declared.ends.OpEnd.TheVariants as ends

-- The creation of an upload of `hello` by an attempt, and its part.
abbrev pub drafts : ℕ → Actor → List ℕ → ℕ → List Entry
drafts k a key id = said k a (CreateUpload lake key) (Upload id) ∷ said k a (UploadPart lake key id 1 (codes "hello")) (Part hello_tag) ∷ []

-- ---- two attempts of one task

-- The script of two attempts of one task.
abbrev pub both_script : Script
both_script = job Magic Append 1 3 1
    (attempt 0 0 ((codes "a", codes "hello") ∷ []) ∷ attempt 0 1 ((codes "b", codes "hello") ∷ []) ∷ [])
    (Do Driver ops.Setup ∷ Do worker ops.Write ∷ Do worker ops.Commit ∷ Do other ops.Write ∷ Do other ops.Commit ∷ Do Driver ops.Commit ∷
    [])

-- The second attempt's set.
abbrev pub b_set : PendingSet
b_set = set_of 0 1 (upload hello 0 1 (codes "b") 2 ∷ [])

-- The contents of `_SUCCESS` for the second attempt.
abbrev pub b_mark : SuccessMark
b_mark = record { job = codes "j1"; committer = Magic; files = codes "b" ∷ []; stamp = None }

-- Both attempts publish. The driver reads the set of the later one, completes the uploads of both and puts `_SUCCESS`.
abbrev pub both_attempts : List Entry
both_attempts =
    drafts 2 worker (codes "out/a") 1
    ++ drafts 4 other (codes "out/b") 2
    ++ said 5 other (PutObject lake (codes "out/__magic/job-j1/sets/task_0.pendingset") (compact_text (set_tree b_set)) None)
    (Stored (plain_tag (compact_text (set_tree b_set))))
    ∷ said 6 Driver (GetObject lake (codes "out/__magic/job-j1/sets/task_0.pendingset")) (Object (compact_text (set_tree b_set)) None)
    ∷ completes 6 (codes "out/a") 1
    ∷ completes 6 (codes "out/b") 2
    ∷ said 6 Driver (PutObject lake (codes "out/_SUCCESS") (compact_text (success_tree b_mark)) None)
    (Stored (plain_tag (compact_text (success_tree b_mark))))
    ∷ []

-- ---- a revert

-- The job's script. No request is sent again, and the job's commit is event 4.
abbrev pub revert_script : Script
revert_script = job Magic Append 1 0 1 (attempt 0 0 ((codes "a", codes "hello") ∷ (codes "b", codes "hello") ∷ []) ∷ [])
    (Do Driver ops.Setup ∷ Do worker ops.Write ∷ Do worker ops.Commit ∷ Do Driver ops.Commit ∷ [])

-- `out/a` is completed, the reply to the completion of `out/b` is lost, and the revert leaves out the deletion of `out/a`.
abbrev pub half_reverted : List Entry
half_reverted =
    drafts 2 worker (codes "out/a") 1
    ++ drafts 2 worker (codes "out/b") 2
    ++ completes 4 (codes "out/a") 1
    ∷ entry 4 Driver (CompleteUpload lake (codes "out/b") 2 (record { number = 1; tag = hello_tag } ∷ [])) ReplyLost
    ∷ said 4 Driver (AbortUpload lake (codes "out/b") 2) Aborted
    ∷ said 4 Driver (DeleteObject lake (codes "out/b")) Deleted
    ∷ []

-- The ends of a run whose commit reverts.
abbrev pub revert_ends : List EventEnd
revert_ends = done_setup ∷ done_task ∷ done_task ∷ Ended (ends.Commit (commits.StoreFault stages.Complete)) ∷ []

-- ---- a task that is reported after a restart

-- The script in which a task is reported after the restart.
abbrev pub anew_script : Script
anew_script = job Magic Append 1 3 1 (attempt 0 0 ((codes "part-00000", codes "hello") ∷ []) ∷ [])
    (Do Driver ops.Setup ∷ Do worker ops.Write ∷ Kill Driver ∷ Restart ∷ Do worker ops.Commit ∷ Do Driver ops.Commit ∷ [])

-- The ends of its events, where the new driver's commit misses the task all the same.
abbrev pub anew_ends : List EventEnd
anew_ends = done_setup ∷ done_task ∷ Done ∷ Done ∷ done_task ∷ Ended (ends.Commit (commits.Missing 0)) ∷ []

-- ---- an operation that runs out of memory

-- The ends where the fourth event, the driver's commit, is reported to end as a clean that ran out of memory.
abbrev pub strange_ends : List EventEnd
strange_ends = done_setup ∷ done_task ∷ done_task ∷ Ended (ends.Clean cleans.NoMemory) ∷ []

-- None of these is the resulting end.
pub record Misended : Type 0 where
  -- `_SUCCESS` exists with the files of two attempts of one task.
  pub both : Always both_script (commits_at 6) opening both_attempts → ⊥
  -- A revert leaves an upload completed.
  pub left : CommitsEnd revert_script opening half_reverted revert_ends → ⊥
  -- A task is missing that was reported after the restart.
  pub anew : CommitsEnd anew_script opening [] anew_ends → ⊥
  -- There is one more end after that of the last event.
  pub beyond : Plays setting (the_ends ++ Done ∷ []) journal → ⊥
  -- A job's commit that ran out of memory is reported as a clean that did.
  pub strange : Plays setting strange_ends attempt_entries → ⊥
