-- The facts that the lines of a trace state, one line after the other.
use Rattle.std.specs.Prelude.{ℕ, ◌+◌, List, [], Bool, true, false, not, ◌||◌, Option, Some, None, Result, Ok, Err}
use Rattle.std.specs.Prelude.{codes, is_none, length, nat_eq, nat_lt}
use Rattle.text_and_lists.specs.Reading.{check, need, ◌>>=◌}
use Rattle.soundness.specs.declared.keeps.Keeps.{Keeps}
use Rattle.judging.specs.Listed.{has_attempt, owner, with_attempt, with_file}
use Rattle.audit_claims.specs.Claims.{Claimed, Tags, last_has}
use Rattle.audit_objects.specs.Objects.{Objects, delete, no_objects, put, same_place}
use Rattle.path_keys.specs.Paths.{Path, below}
use Rattle.trace_reader.specs.declared.fault.TraceFault.{TraceFault}
use Rattle.trace_reader.specs.declared.fault.TraceFault.TheVariants.{NoSource, OutOfOrder, Repeated, SamePath}
use Rattle.trace_reader.specs.declared.line.TraceLine.{TraceLine}
use Rattle.trace_reader.specs.declared.line.TraceLine.TheVariants as line
use Rattle.trace_reader.specs.declared.stage.TraceStage.{TraceStage}
use Rattle.trace_reader.specs.Reading.{line_of}

-- The facts that the lines so far state.
pub record Recorded : Type 0 where
  -- The job.
  pub dest : Path
  pub keeps : Keeps
  pub tasks : ℕ
  -- The job's attempts with their files.
  pub claimed : Claimed
  -- The objects when the run began, and now.
  pub opening : Objects
  pub objects : Objects
  -- Whether a change or the commit has come.
  pub running : Bool
  -- Whether the commit has begun.
  pub begun : Bool
  -- Whether a request put the success marker.
  pub marked : Bool
  -- How many requests changed something.
  pub changes : ℕ

-- ---- the success marker

-- The key of the success marker.
abbrev pub marker_key : Path → List ℕ
marker_key dest = below dest.key (codes "_SUCCESS")

-- True if this is the place of the success marker.
abbrev pub is_marker : Path → (bucket key : List ℕ) → Bool
is_marker dest bucket key = same_place dest.bucket (marker_key dest) bucket key

-- ---- one line after the other

-- The facts after the job's line.
abbrev pub begin : Path → Keeps → ℕ → Recorded
begin dest keeps tasks = record {
  dest = dest;
  keeps = keeps;
  tasks = tasks;
  claimed = record { listed = []; current = 0 };
  opening = no_objects;
  objects = no_objects;
  running = false;
  begun = false;
  marked = false;
  changes = 0;
}

-- The facts after a request changed the objects.
abbrev pub changed : Objects → (marked : Bool) → Recorded → Recorded
changed objects marked r = record r { objects = objects; running = true; marked = r.marked || marked; changes = r.changes + 1 }

-- The facts after the line of another attempt.
abbrev pub attempt_after : ℕ → ℕ → Recorded → Result Recorded TraceFault
attempt_after task attempt r = do
  new ← check (not (has_attempt task attempt r.claimed.listed)) Repeated
  Ok (record r { claimed = record { listed = with_attempt task attempt r.claimed.listed; current = task } })

-- True if no task owns the path, or this task does.
abbrev pub is_own : ℕ → Option ℕ → Bool
is_own task None = true
is_own task (Some other) = nat_eq task other

-- The facts after another file of the last attempt.
abbrev pub file_after : List ℕ → Tags → Recorded → Result Recorded TraceFault
file_after path tags r = do
  new ← check (not (last_has r.claimed path)) Repeated
  own ← check (is_own r.claimed.current (owner path r.claimed.listed)) SamePath
  Ok (record r { claimed = record r.claimed { listed = with_file r.claimed.current path tags r.claimed.listed } })

-- The facts after another object that existed when the run began.
abbrev pub object_after : (bucket key : List ℕ) → Tags → Recorded → Result Recorded TraceFault
object_after bucket key tags r = do
  new ← check (is_none (r.objects bucket key)) Repeated
  Ok (record r { opening = put bucket key tags r.opening; objects = put bucket key tags r.objects })

-- The facts after the commit began.
abbrev pub commit_after : Recorded → Result Recorded TraceFault
commit_after r = do
  new ← check (not r.begun) Repeated
  Ok (record r { running = true; begun = true })

-- The facts after a copy.
abbrev pub copy_after : (bucket source key : List ℕ) → Recorded → Result Recorded TraceFault
copy_after bucket source key r = do
  tags ← need (r.objects bucket source) NoSource
  Ok (changed (put bucket key tags r.objects) (is_marker r.dest bucket key) r)

-- The facts of a line added to those before it, or its fault.
abbrev pub after : Option Recorded → TraceLine → Result Recorded TraceFault
after None (line.Job dest keeps tasks) = Ok (begin dest keeps tasks)
after None _ = Err OutOfOrder
after (Some r) (line.Job dest keeps tasks) = Err OutOfOrder
after (Some r) (line.Attempt task attempt) = attempt_after task attempt r
after (Some r) (line.File path tags) = file_after path tags r
after (Some r) (line.Object bucket key tags) = object_after bucket key tags r
after (Some r) line.Commit = commit_after r
after (Some r) (line.Put bucket key tags) = Ok (changed (put bucket key tags r.objects) (is_marker r.dest bucket key) r)
after (Some r) (line.Copy bucket source key) = copy_after bucket source key r
after (Some r) (line.Delete bucket keys) = Ok (changed (delete bucket keys r.objects) false r)
after (Some r) line.Still = Ok r

-- How far the trace has come.
abbrev pub stage_of : Option Recorded → TraceStage
stage_of None = record { tasks = None; attempted = false; running = false }
stage_of (Some r) = record { tasks = Some r.tasks; attempted = nat_lt 0 (length r.claimed.listed); running = r.running }

-- The facts of a line of bytes added to those before it, or its fault.
abbrev pub read_after : Option Recorded → List ℕ → Result Recorded TraceFault
read_after said bytes = line_of (stage_of said) bytes >>= after said
