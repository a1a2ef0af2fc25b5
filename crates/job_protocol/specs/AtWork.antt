-- Operations with the plans that they are made from. A plan holds what an actor knows of the job, and replaces the job's whole script.
use Rattle.job_model.specs.Attempts.{Declared, Who}
use Rattle.job_model.specs.JobScript.{Script, plain_script}
use Rattle.job_model.specs.Jobs.{Job, Task}
use Rattle.job_model.specs.Known.{Known}
use Rattle.job_protocol.specs.Cleanups.{Clean, clean_after, clean_asks}
use Rattle.job_protocol.specs.JobCommits.{Commit, Completing, Fetching, Marking, Replacing, Sets, commit_asks, commit_tells, set_read}
use Rattle.job_protocol.specs.Knowledge.{learn}
use Rattle.job_protocol.specs.Outputs.{files}
use Rattle.job_protocol.specs.Setup.{Setup, setup_after, setup_asks}
use Rattle.job_protocol.specs.Sparing.{Sparing, sparing_after, sparing_asks}
use Rattle.job_protocol.specs.TaskAborts.{TaskAbort, task_abort_after, task_abort_asks}
use Rattle.job_protocol.specs.TaskCommits.{TaskCommit, task_commit_after, task_commit_asks}
use Rattle.job_protocol.specs.Writes.{Write, write_after, write_asks}
use Rattle.path_keys.specs.Paths.{Path, relative_in}
use Rattle.pending_json.specs.declared.records.PendingSet.{PendingSet}
use Rattle.retries.specs.Retries.{Got, Item, OutOfMemory, WornOut}
use Rattle.s3_types.specs.declared.journal.Outcome.{Outcome}
use Rattle.s3_types.specs.declared.journal.Outcome.TheVariants.{Answered, RequestLost}
use Rattle.s3_types.specs.declared.request.Request.{Request}
use Rattle.std.specs.Option.{unwrap_or}
use Rattle.std.specs.Prelude.{List, None, Option, Some, map, ℕ, [], ◌++◌, ◌∷◌}

-- ---- the script that a plan gives

-- A script with this head, this block and these attempts.
abbrev pub script_of : Job → ℕ → List Declared → Script
script_of j block attempts = record (plain_script j.job j.dest j.committer j.mode j.tasks)
    { retries = j.retries; block = block; lanes = j.lanes; stamp = j.stamp; attempts = attempts }

-- The name of the attempt of a plan.
abbrev pub who_of : Task → Who
who_of t = record { task = t.task; attempt = t.attempt }

-- The script that an attempt's plan gives: it declares only this attempt, with its files at their paths below the destination.
abbrev pub task_script : Task → Script
task_script t = script_of t.job t.block ((who_of t, t.files) ∷ [])

-- The script that the driver's plan gives. It declares no attempt, as the driver has read no sets yet.
abbrev pub job_script : Job → Script
job_script j = script_of j 0 []

-- The attempt of a set, with the paths of its uploads below the destination. The contents of the files are unknown, and empty here.
abbrev pub declared_of : Path → PendingSet → Declared
declared_of dest s = (
  record { task = s.task; attempt = s.attempt },
  map (λ c. (unwrap_or (relative_in dest.key c.destination) [], []))
      s.commits,
)

-- The script that the driver's plan gives after it has read these sets.
abbrev pub read_script : Job → Sets → Script
read_script j sets = script_of j 0 (map (declared_of j.dest) sets)

-- ---- an attempt's operation

-- An operation with the attempt's plan.
pub record Attempting (O : Type 0) : Type 0 where
  pub plan : Task
  pub operation : O

-- What the attempt knows after its request was answered or ran out of retries.
abbrev pub learned : Script → Who → Known → Option Request → Item → Known
learned w a k (Some r) (Got reply repeated) = learn w a k r (Answered reply)
learned w a k (Some r) WornOut = learn w a k r RequestLost
learned w a k (Some r) OutOfMemory = k
learned w a k None i = k

-- The attempt's plan with this knowledge.
abbrev pub with_known : Task → Known → Task
with_known t k = record {
  job = t.job;
  task = t.task;
  attempt = t.attempt;
  files = t.files;
  block = t.block;
  minimum = t.minimum;
  known = k;
}

-- The operation and its plan, after its request was answered or ran out of retries.
abbrev pub told : {O : Type 0} → Attempting O → Option Request → Item → O → Attempting O
told m r i next = record { plan = with_known m.plan (learned (task_script m.plan) (who_of m.plan) m.plan.known r i); operation = next }

-- The next request of a write, by the attempt's plan.
abbrev pub write_wants : Attempting Write → Option Request
write_wants m = write_asks (task_script m.plan) (who_of m.plan) m.plan.known m.operation

-- The write after its request was answered or ran out of retries.
abbrev pub write_told : Attempting Write → Item → Attempting Write
write_told m i = told m (write_wants m) i (write_after (task_script m.plan) m.plan.minimum m.operation i)

-- The next request of a task's commit, by the attempt's plan.
abbrev pub task_commit_wants : Attempting TaskCommit → Option Request
task_commit_wants m = task_commit_asks (task_script m.plan) (who_of m.plan) m.plan.known m.operation

-- The task's commit after its request was answered or ran out of retries.
abbrev pub task_commit_told : Attempting TaskCommit → Item → Attempting TaskCommit
task_commit_told m i = told m (task_commit_wants m) i (task_commit_after (task_script m.plan) m.plan.minimum (who_of m.plan) m.operation i)

-- The next request of a task's abort, by the attempt's plan.
abbrev pub task_abort_wants : Attempting TaskAbort → Option Request
task_abort_wants m = task_abort_asks (task_script m.plan) (who_of m.plan) m.operation

-- The task's abort after its request was answered or ran out of retries.
abbrev pub task_abort_told : Attempting TaskAbort → Item → Attempting TaskAbort
task_abort_told m i = told m (task_abort_wants m) i (task_abort_after (task_script m.plan) m.operation i)

-- ---- the driver's operations

-- An operation with the job's plan.
pub record Driving (O : Type 0) : Type 0 where
  pub plan : Job
  pub operation : O

-- The next request of a set-up, by the job's plan.
abbrev pub setup_wants : Driving Setup → Option Request
setup_wants m = setup_asks (job_script m.plan) m.operation

-- The set-up after its request was answered or ran out of retries.
abbrev pub setup_told : Driving Setup → Item → Driving Setup
setup_told m i = record { plan = m.plan; operation = setup_after (job_script m.plan) m.operation i }

-- The next request of an abort or clean of the job, by its plan.
abbrev pub clean_wants : Driving Clean → Option Request
clean_wants m = clean_asks (job_script m.plan) m.operation

-- The abort or clean after its request was answered or ran out of retries.
abbrev pub clean_told : Driving Clean → Item → Driving Clean
clean_told m i = record { plan = m.plan; operation = clean_after (job_script m.plan) m.operation i }

-- The next request of a sparing abort or clean, by the job's plan.
abbrev pub sparing_wants : Driving Sparing → Option Request
sparing_wants m = sparing_asks (job_script m.plan) m.operation

-- The sparing abort or clean after its request was answered or ran out of retries.
abbrev pub sparing_told : Driving Sparing → Item → Driving Sparing
sparing_told m i = record { plan = m.plan; operation = sparing_after (job_script m.plan) m.operation i }

-- ---- the driver's commit

-- The sets that a commit keeps.
abbrev pub sets_in : Commit → Sets
sets_in (Fetching sets m) = sets
sets_in (Replacing sets p ps s m) = sets
sets_in (Completing sets x xs finished) = sets
sets_in (Marking sets m) = sets
sets_in _ = []

-- The sets that were read, with one more if the reply had one.
abbrev pub with_set : Sets → Option PendingSet → Sets
with_set sets (Some s) = sets ++ s ∷ []
with_set sets None = sets

-- The sets that a commit keeps, with the one that an outcome brings.
abbrev pub sets_after : Commit → Outcome → Sets
sets_after (Fetching sets m) (Answered r) = with_set sets (set_read r)
sets_after c o = sets_in c

-- A commit, the job's plan, and the attempts whose sets were read, by task from 0 on.
pub record Committing : Type 0 where
  pub plan : Job
  pub picked : List ℕ
  pub operation : Commit

-- The attempts of the sets that were read, with one more if the reply had one.
abbrev pub with_pick : List ℕ → Option PendingSet → List ℕ
with_pick picked (Some s) = picked ++ s.attempt ∷ []
with_pick picked None = picked

-- The attempts whose sets were read, after one more send.
abbrev pub picked_after : List ℕ → Commit → Outcome → List ℕ
picked_after picked (Fetching sets m) (Answered r) = with_pick picked (set_read r)
picked_after picked c o = picked

-- The next request of a job's commit, by the job's plan and the sets that the commit keeps.
abbrev pub commit_wants : Committing → Option Request
commit_wants m = commit_asks (read_script m.plan (sets_in m.operation)) m.operation

-- The job's commit after one more send.
abbrev pub commit_told : Committing → Outcome → Committing
commit_told m o = record {
  plan = m.plan;
  picked = picked_after m.picked m.operation o;
  operation = commit_tells
      (read_script m.plan (sets_after m.operation o)) m.operation o;
}

-- ---- the plans that a script gives

-- The plan of the job's driver.
abbrev pub job_of : Script → Job
job_of w = record {
  job = w.job;
  dest = w.dest;
  committer = w.committer;
  mode = w.mode;
  tasks = w.tasks;
  retries = w.retries;
  lanes =
      w.lanes;
  stamp = w.stamp;
}

-- The plan of an attempt with this knowledge, for a store with this minimum size of a part.
abbrev pub task_of : Script → ℕ → Who → Known → Task
task_of w minimum a k = record {
  job = job_of w;
  task = a.task;
  attempt = a.attempt;
  files = files w a;
  block = w.block;
  minimum = minimum;
  known = k;
}
