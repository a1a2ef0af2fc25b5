-- An attempt's abort of its task (Hadoop, S3A committer architecture: task abort).
use Rattle.job_model.specs.Attempts.{Who}
use Rattle.job_model.specs.JobScript.{Script}
use Rattle.job_model.specs.Known.{Drawn, Known}
use Rattle.job_model.specs.declared.ends.TaskEnd.{TaskEnd}
use Rattle.job_protocol.specs.Knowledge.{as_made}
use Rattle.job_protocol.specs.TaskCommits.{attempt_prefix, temporary_path}
use Rattle.list_walk.specs.Walks.{Sweep, all_go, sweep_asks, sweep_hears, sweep_start}
use Rattle.retries.specs.Retries.{Got, Item, OutOfMemory, WornOut}
use Rattle.s3_types.specs.declared.reply.Reply.{Reply}
use Rattle.s3_types.specs.declared.request.Committer.{Committer}
use Rattle.s3_types.specs.declared.request.Committer.TheVariants.{Magic}
use Rattle.s3_types.specs.declared.request.Request.{Request}
use Rattle.s3_types.specs.declared.request.Request.TheVariants.{AbortUpload, ClusterDelete}
use Rattle.std.specs.Prelude.{Bool, List, None, Option, Some, false, true, [], ◌∷◌}
use Rattle.job_model.specs.declared.ends.TaskEnd.TheVariants as ends

-- How far a task's abort has come.
pub data TaskAbort : Type 0 where
  -- aborts this upload of the attempt; the others follow; `put_sent`: the put of its temporary file was sent
  Dropping : (upload : Drawn) (others : List Drawn) (put_sent : Bool) → TaskAbort
  -- magic: empties the attempt's own directory
  Sweeping : (sweep : Sweep) → TaskAbort
  -- staging: deletes the attempt's temporary file
  Removing : TaskAbort
  TaskAbortOver : (end : TaskEnd) → TaskAbort

-- The next request of a task's abort, or none if it is over.
abbrev pub task_abort_asks : Script → Who → TaskAbort → Option Request
task_abort_asks w a (Dropping d ds sent) = Some (AbortUpload w.dest.bucket d.key d.upload)
task_abort_asks w a (Sweeping s) = Some (sweep_asks w.dest.bucket (attempt_prefix w a) s)
task_abort_asks w a Removing = Some (ClusterDelete (temporary_path w a))
task_abort_asks w a (TaskAbortOver end) = None

-- The deletion of the temporary file, if its put was sent; otherwise the abort is Done.
abbrev pub removing : Bool → TaskAbort
removing true = Removing
removing false = TaskAbortOver ends.Done

-- The abort after the last upload is aborted: it empties its directory, or deletes its temporary file.
abbrev pub dropped : Committer → Bool → TaskAbort
dropped Magic sent = Sweeping sweep_start
dropped _ sent = removing sent

-- The abort of the next of these uploads, and what follows after the last one.
abbrev pub dropping : Committer → Bool → List Drawn → TaskAbort
dropping committer sent [] = dropped committer sent
dropping committer sent (d ∷ ds) = Dropping d ds sent

-- The start of a task's abort. An attempt that has sent its publishing request keeps its uploads, and sends nothing.
abbrev pub task_abort_by : Bool → Committer → Known → TaskAbort
task_abort_by true committer k = TaskAbortOver ends.Kept
task_abort_by false committer k = dropping committer k.put_sent (as_made k.drawn)

-- The start of a task's abort, by what the attempt knows.
abbrev pub task_abort_start : Script → Known → TaskAbort
task_abort_start w k = task_abort_by k.publish_sent w.committer k

-- The abort after a reply to the sweep. After the last one it is Done.
abbrev pub sweeping : Option Sweep → TaskAbort
sweeping (Some s) = Sweeping s
sweeping None = TaskAbortOver ends.Done

-- The abort after a reply.
abbrev pub task_abort_hears : Script → TaskAbort → Reply → TaskAbort
task_abort_hears w (Dropping d ds sent) r = dropping w.committer sent ds
task_abort_hears w (Sweeping s) r = sweeping (sweep_hears all_go s r)
task_abort_hears w Removing r = TaskAbortOver ends.Done
task_abort_hears w (TaskAbortOver end) r = TaskAbortOver end

-- How a task's abort ended, if it is over.
abbrev pub task_abort_over : TaskAbort → Option TaskEnd
task_abort_over (TaskAbortOver end) = Some end
task_abort_over _ = None

-- The abort after a reply, after a request that ran out of retries, or after memory ran out.
abbrev pub task_abort_after : Script → TaskAbort → Item → TaskAbort
task_abort_after w t (Got r repeated) = task_abort_hears w t r
task_abort_after w t WornOut = TaskAbortOver ends.StoreFault
task_abort_after w t OutOfMemory = TaskAbortOver ends.NoMemory
