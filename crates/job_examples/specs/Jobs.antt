-- The job of these runs, and entries of its journals.
use Rattle.job_model.specs.Attempts.{Declared}
use Rattle.job_model.specs.Files.{File}
use Rattle.job_model.specs.JobScript.{Script, plain_script}
use Rattle.job_model.specs.Known.{Known}
use Rattle.job_model.specs.declared.ends.EventEnd.{EventEnd}
use Rattle.job_model.specs.declared.ends.EventEnd.TheVariants.{Ended}
use Rattle.job_model.specs.declared.ends.OpEnd.{OpEnd}
use Rattle.job_model.specs.declared.events.Event.{Event}
use Rattle.job_model.specs.declared.events.Op.{Op}
use Rattle.job_protocol.specs.Operations.{Operation, Reports, Running, Setting, advance, over, wants}
use Rattle.job_protocol.specs.Seen.{Times}
use Rattle.job_spec.specs.States.{Doing}
use Rattle.s3_types.specs.Tags.{Spelled}
use Rattle.s3_types.specs.declared.journal.Entry.{Entry}
use Rattle.s3_types.specs.declared.journal.Outcome.{Outcome}
use Rattle.s3_types.specs.declared.journal.Outcome.TheVariants.{Answered}
use Rattle.s3_types.specs.declared.reply.Reply.{Reply}
use Rattle.s3_types.specs.declared.request.Actor.{Actor}
use Rattle.s3_types.specs.declared.request.Actor.TheVariants.{Attempt}
use Rattle.s3_types.specs.declared.request.Committer.{Committer}
use Rattle.s3_types.specs.declared.request.Mode.{Mode}
use Rattle.s3_types.specs.declared.request.Request.{Request}
use Rattle.std.specs.Prelude.{List, None, Option, Some, codes, false, ℕ, [], ◌∷◌}
use Rattle.job_model.specs.declared.ends.SetupEnd.TheVariants as setups
use Rattle.job_model.specs.declared.ends.TaskEnd.TheVariants as tasks
use Rattle.job_model.specs.declared.ends.OpEnd.TheVariants as ends

-- The bucket.
abbrev pub lake : List ℕ
lake = codes "lake"

-- A job at s3a://lake/out that names no fate.
abbrev pub job : Committer → Mode → ℕ → ℕ → ℕ → List Declared → List Event → Script
job committer mode tasks retries lanes attempts events =
    record (plain_script (codes "j1") (record { bucket = lake; key = codes "out" }) committer mode tasks)
    { retries = retries; lanes = lanes; attempts = attempts; events = events }

-- An attempt with its files.
abbrev pub attempt : ℕ → ℕ → List File → Declared
attempt task number files = (record { task = task; attempt = number }, files)

-- The attempt 0.0.
abbrev pub worker : Actor
worker = Attempt 0 0

-- The tag of `hello`.
abbrev pub hello_tag : Spelled
hello_tag = record { digits = codes "5d41402abc4b2a76b9719d911017c592"; parts = 0 }

-- An entry of the journal.
abbrev pub entry : ℕ → Actor → Request → Outcome → Entry
entry k a r o = record { event = k; actor = a; request = r; outcome = o }

-- An answered entry.
abbrev pub said : ℕ → Actor → Request → Reply → Entry
said k a r reply = entry k a r (Answered reply)

-- The times of a run whose commit begins in this event, and in which no abort or clean begins.
abbrev pub commits_at : ℕ → Times
commits_at k = record { commit = Some k; clean = None }

-- The attempt 0.1.
abbrev pub other : Actor
other = Attempt 0 1

-- The magic directory of the attempt 0.0.
abbrev pub directory : List ℕ
directory = codes "out/__magic/job-j1/tasks/0_0/__base/"

-- The key of the set of task 0.
abbrev pub set_key : List ℕ
set_key = codes "out/__magic/job-j1/sets/task_0.pendingset"

-- What stays the same during a run.
abbrev pub setting : Script → Setting
setting w = record { script = w; minimum = 5242880; shared = false }

-- The driver's reports if this task is missing, or, if none is, with that of the one attempt.
abbrev pub told_of : Option ℕ → Reports
told_of None = record { missing = None; attempts = record { task = 0; attempt = 0 } ∷ [] }
told_of (Some t) = record { missing = Some t; attempts = [] }

-- An operation that began in event k with these reports.
abbrev pub begun_with : Op → ℕ → Reports → Doing
begun_with op k reports = record { op = op; since = k; reports = reports }

-- An operation that began in event k, where this task was missing.
abbrev pub doing : Op → ℕ → Option ℕ → Doing
doing op k missing = begun_with op k (told_of missing)

-- The end of a set-up that is Done.
abbrev pub done_setup : EventEnd
done_setup = Ended (ends.Setup setups.Done)

-- The end of an attempt's operation that is Done.
abbrev pub done_task : EventEnd
done_task = Ended (ends.Task tasks.Done)

-- The ends of the events before the commit.
abbrev pub before_commit : List EventEnd
before_commit = done_setup ∷ done_task ∷ done_task ∷ []

-- ---- the requests and the end of an operation, for given outcomes

-- The requests of the operation, one for each outcome.
abbrev pub asked : Setting → Actor → Running → List Outcome → List (Option Request)
asked g a m [] = []
asked g a m (o ∷ os) = wants g a m ∷ asked g a (advance g a m o) os

-- The operation after these outcomes.
abbrev pub reached : Setting → Actor → Running → List Outcome → Running
reached g a m [] = m
reached g a m (o ∷ os) = reached g a (advance g a m o) os

-- The requests of an operation, and its end.
pub record Course : Type 0 where
  pub requests : List (Option Request)
  pub end : Option OpEnd

-- The requests and the end of an operation with these outcomes.
abbrev pub course_of : Setting → Actor → Running → List Outcome → Course
course_of g a m os = record { requests = asked g a m os; end = over (reached g a m os).operation }

-- The requests and the end of an operation from its beginning, with these outcomes.
abbrev pub course : Setting → Actor → Option Operation → Known → List Outcome → Course
course g a None k os = record { requests = []; end = None }
course g a (Some op) k os = course_of g a (record { operation = op; known = k }) os
