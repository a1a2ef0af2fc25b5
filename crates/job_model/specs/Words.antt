-- The words for events, ends, faults and states.
use Rattle.job_model.specs.declared.ends.CheckEnd.{CheckEnd}
use Rattle.job_model.specs.declared.ends.CleanEnd.{CleanEnd}
use Rattle.job_model.specs.declared.ends.CommitEnd.{CommitEnd}
use Rattle.job_model.specs.declared.ends.EventFault.{EventFault}
use Rattle.job_model.specs.declared.ends.OpEnd.{OpEnd}
use Rattle.job_model.specs.declared.ends.SetupEnd.{SetupEnd}
use Rattle.job_model.specs.declared.ends.FaultStage.{FaultStage}
use Rattle.job_model.specs.declared.ends.TaskEnd.{TaskEnd}
use Rattle.job_model.specs.declared.events.Event.{Event}
use Rattle.job_model.specs.declared.events.Event.TheVariants.{Do, Kill, Mix, Recover, Restart, Run, Start, Step}
use Rattle.job_model.specs.declared.events.Op.{Op}
use Rattle.job_model.specs.declared.states.ActorStage.{ActorStage}
use Rattle.job_model.specs.declared.states.Life.{Life}
use Rattle.s3_types.specs.Spelling.{actor_text}
use Rattle.std.specs.Fmt.{decimal}
use Rattle.std.specs.List.{join_with_byte}
use Rattle.std.specs.Prelude.{List, codes, ℕ, [], ◌∷◌}
use Rattle.job_model.specs.declared.events.Op.TheVariants as ops
use Rattle.job_model.specs.declared.ends.SetupEnd.TheVariants as setups
use Rattle.job_model.specs.declared.ends.CheckEnd.TheVariants as checks
use Rattle.job_model.specs.declared.ends.TaskEnd.TheVariants as tasks
use Rattle.job_model.specs.declared.ends.FaultStage.TheVariants as parts
use Rattle.job_model.specs.declared.ends.CommitEnd.TheVariants as commits
use Rattle.job_model.specs.declared.ends.CleanEnd.TheVariants as cleans
use Rattle.job_model.specs.declared.ends.OpEnd.TheVariants as ends
use Rattle.job_model.specs.declared.ends.EventFault.TheVariants as faults
use Rattle.job_model.specs.declared.states.Life.TheVariants as lives
use Rattle.job_model.specs.declared.states.ActorStage.TheVariants as stage

-- The words, joined by single blanks.
abbrev pub spaced : List (List ℕ) → List ℕ
spaced words = join_with_byte 32 words

-- ---- operations and events

-- The word of an operation.
abbrev pub op_word : Op → List ℕ
op_word ops.Setup = codes "setup"
op_word ops.Write = codes "write"
op_word ops.Commit = codes "commit"
op_word ops.Abort = codes "abort"
op_word ops.Clean = codes "clean"

-- The text of an event, as scripts write it.
abbrev pub event_text : Event → List ℕ
event_text (Do actor op) = spaced (codes "do" ∷ actor_text actor ∷ op_word op ∷ [])
event_text (Start actor op) = spaced (codes "start" ∷ actor_text actor ∷ op_word op ∷ [])
event_text (Step actor count) = spaced (codes "step" ∷ actor_text actor ∷ decimal count ∷ [])
event_text (Run actor) = spaced (codes "run" ∷ actor_text actor ∷ [])
event_text (Kill actor) = spaced (codes "kill" ∷ actor_text actor ∷ [])
event_text (Mix seed) = spaced (codes "mix" ∷ decimal seed ∷ [])
event_text Restart = spaced (codes "restart" ∷ codes "driver" ∷ [])
event_text (Recover actor) = spaced (codes "recover" ∷ actor_text actor ∷ [])

-- ---- outcomes of operations

-- The text for how a set-up ended.
abbrev pub setup_text : SetupEnd → List ℕ
setup_text setups.Done = codes "done"
setup_text (setups.Conflict path) = spaced (codes "conflict" ∷ path ∷ [])
setup_text setups.DestIsFile = codes "dest-is-file"
setup_text setups.NoSuchBucket = codes "no-such-bucket"
setup_text setups.StoreFault = codes "store-fault"
setup_text setups.NoMemory = codes "no-memory"

-- The text for how the conflict check before a commit ended.
abbrev pub check_text : CheckEnd → List ℕ
check_text checks.Clear = codes "clear"
check_text (checks.Conflict path) = spaced (codes "conflict" ∷ path ∷ [])
check_text checks.StoreFault = codes "store-fault"
check_text checks.NoMemory = codes "no-memory"

-- The text for how an operation of an attempt ended.
abbrev pub task_text : TaskEnd → List ℕ
task_text tasks.Done = codes "done"
task_text (tasks.Conflict path) = spaced (codes "conflict" ∷ path ∷ [])
task_text tasks.Kept = codes "kept"
task_text (tasks.Gone name) = spaced (codes "gone" ∷ name ∷ [])
task_text tasks.StoreFault = codes "store-fault"
task_text tasks.NoMemory = codes "no-memory"

-- The word for the stage of a job's commit in which a request ran out of retries.
abbrev pub part_word : FaultStage → List ℕ
part_word parts.Read = codes "read"
part_word parts.Delete = codes "delete"
part_word parts.Complete = codes "complete"
part_word parts.Success = codes "success"

-- The text for how a job's commit ended.
abbrev pub commit_text : CommitEnd → List ℕ
commit_text commits.Committed = codes "committed"
commit_text (commits.Missing task) = spaced (codes "missing" ∷ decimal task ∷ [])
commit_text (commits.SamePath path first second) = spaced (codes "same-path" ∷ path ∷ decimal first ∷ decimal second ∷ [])
commit_text (commits.StoreFault part) = spaced (codes "store-fault" ∷ part_word part ∷ [])
commit_text commits.NoMemory = codes "no-memory"

-- The text for how a job's clean or abort ended.
abbrev pub clean_text : CleanEnd → List ℕ
clean_text cleans.Done = codes "done"
clean_text cleans.StoreFault = codes "store-fault"
clean_text cleans.NoMemory = codes "no-memory"

-- The text for how an operation ended.
abbrev pub outcome_text : OpEnd → List ℕ
outcome_text (ends.Setup end) = setup_text end
outcome_text (ends.Check end) = check_text end
outcome_text (ends.Commit end) = commit_text end
outcome_text (ends.Clean end) = clean_text end
outcome_text (ends.Task end) = task_text end
outcome_text ends.NoMemory = codes "no-memory"

-- ---- refusals

-- The word for why an event was refused.
abbrev pub fault_word : EventFault → List ℕ
fault_word faults.Dead = codes "dead"
fault_word faults.Busy = codes "busy"
fault_word faults.Idle = codes "idle"
fault_word faults.NotSet = codes "not-set"
fault_word faults.WrongState = codes "wrong-state"
fault_word faults.NotDead = codes "not-dead"
fault_word faults.NoRecovery = codes "no-recovery"

-- ---- lives and stages

-- The word of a life.
abbrev pub life_word : Life → List ℕ
life_word lives.Idle = codes "idle"
life_word lives.Busy = codes "busy"
life_word lives.Dead = codes "dead"

-- The word of a stage.
abbrev pub stage_word : ActorStage → List ℕ
stage_word stage.New = codes "new"
stage_word stage.Set = codes "set"
stage_word stage.Writing = codes "writing"
stage_word stage.Written = codes "written"
stage_word stage.Committing = codes "committing"
stage_word stage.Committed = codes "committed"
stage_word stage.Failed = codes "failed"
stage_word stage.Aborted = codes "aborted"
