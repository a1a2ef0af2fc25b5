-- The operation of an attempt, by the attempt's life and stage.
use Rattle.text_and_lists.proofs.Members.{false_true}
use Rattle.job_invariant.proofs.Going.{step_so}
use Rattle.job_model.specs.Attempts.{Who}
use Rattle.job_model.specs.Files.{File}
use Rattle.job_model.specs.JobScript.{Script}
use Rattle.job_model.specs.Known.{Drawn, Known}
use Rattle.job_model.specs.declared.ends.OpEnd.{OpEnd}
use Rattle.job_model.specs.declared.ends.TaskEnd.{TaskEnd}
use Rattle.job_model.specs.declared.events.Op.{Op}
use Rattle.job_model.specs.declared.events.Op.TheVariants.{Abort, Commit, Write}
use Rattle.job_model.specs.declared.states.ActorStage.{ActorStage}
use Rattle.job_model.specs.declared.states.Life.{Life}
use Rattle.job_model.specs.declared.states.Life.TheVariants.{Busy, Dead, Idle}
use Rattle.job_protocol.specs.Knowledge.{as_made}
use Rattle.job_protocol.specs.Operations.{Operation, Setting, TheTaskAbort, TheTaskCommit, TheWrite, over, tells}
use Rattle.job_protocol.specs.Outputs.{files}
use Rattle.job_protocol.specs.TaskAborts.{TaskAbort, task_abort_after, task_abort_by, task_abort_over, task_abort_start}
use Rattle.job_protocol.specs.TaskCommits.{task_commit_over}
use Rattle.job_protocol.specs.Writes.{write_after, write_over, write_start}
use Rattle.job_spec.specs.States.{attempt_may, ended, is_committing, task_ended}
use Rattle.script_steps.proofs.RunningCommits.{FreeCommit, commit_goes, is_kept}
use Rattle.script_steps.proofs.RunningStages.{of_sort}
use Rattle.retries.specs.Retries.{Got, Item, Retried, WornOut, step}
use Rattle.s3_types.specs.declared.journal.Outcome.{Outcome}
use Rattle.s3_types.specs.declared.request.Committer.{Committer}
use Rattle.s3_types.specs.declared.request.Committer.TheVariants.{Magic}
use Rattle.std.proofs.Common.{Bool, List, None, Option, Some, ap, arith, false, refl, subst, sym, true, ℕ, ◌≡◌}
use Rattle.job_model.specs.declared.ends.TaskEnd.TheVariants as tasks
use Rattle.job_model.specs.declared.ends.OpEnd.TheVariants as ends
use Rattle.job_model.specs.declared.states.ActorStage.TheVariants as stage
use Rattle.job_protocol.specs.Writes as writes
use Rattle.job_protocol.specs.TaskAborts as aborts

-- ---- ends that are never Kept

-- What each item keeps of an operation under retries, each outcome keeps.
step_keeps : {M : Type 0} (P : M → Type 0) (retries : ℕ) (after : M → Item → M) (t : Retried M) (o : Outcome) → P t.operation
    → ((i : Item) → P (after t.operation i)) → P (step retries after t o).operation
step_keeps P retries after t o h next = step_so retries after t o P (λ x e. next (Got x t.repeated)) (λ none. h) (λ none. next WornOut)

-- A write never ends Kept.
abbrev pub FreeWrite : writes.Write → Type 0
FreeWrite x = is_kept (write_over x) ≡ false

free_writing : (fs : List File) → FreeWrite (writes.writing fs)
free_writing fs = grind arith

pub free_start : (w : Script) (a : Who) → FreeWrite (write_start w a)
free_start w a = elim w.committer as (λ c. FreeWrite (writes.write_start_by c (files w a))) [ Magic ↦ free_writing (files w a) | _ ↦ refl ]

free_after : (w : Script) (minimum : ℕ) (x : writes.Write) → FreeWrite x → (i : Item) → FreeWrite (write_after w minimum x i)
free_after w minimum x h i = grind arith

-- An abort that did not begin as Kept.
abbrev pub FreeAbort : TaskAbort → Type 0
FreeAbort x = is_kept (task_abort_over x) ≡ false

free_dropped : (c : Committer) (sent : Bool) → FreeAbort (aborts.dropped c sent)
free_dropped c sent = grind arith

free_dropping : (c : Committer) (sent : Bool) (ds : List Drawn) → FreeAbort (aborts.dropping c sent ds)
free_dropping c sent ds = grind arith

-- An abort begins as Kept only if the publishing request was sent.
pub free_abort : (w : Script) (k : Known) → k.publish_sent ≡ false → FreeAbort (task_abort_start w k)
free_abort w k e = subst (λ b. FreeAbort (task_abort_by b w.committer k)) (sym e) (free_dropping w.committer k.put_sent (as_made k.drawn))

abort_after : (w : Script) (x : TaskAbort) → FreeAbort x → (i : Item) → FreeAbort (task_abort_after w x i)
abort_after w x h i = grind arith

-- ---- the operation of an attempt

-- An operation of this kind that never ends Kept.
abbrev pub Held : Op → Option Operation → Type 0
Held Write (Some (TheWrite t)) = FreeWrite t.operation
Held Commit (Some (TheTaskCommit t)) = FreeCommit t.operation
Held Abort (Some (TheTaskAbort t)) = FreeAbort t.operation
Held _ _ = ⊥

-- A write that is done.
abbrev pub HasWritten : Option Operation → Type 0
HasWritten (Some (TheWrite t)) = t.operation ≡ writes.WriteOver tasks.Done
HasWritten _ = ⊥

-- No operation, or one of an attempt.
abbrev pub IsTask : Option Operation → Type 0
IsTask None = Unit {0}
IsTask (Some (TheWrite t)) = Unit {0}
IsTask (Some (TheTaskCommit t)) = Unit {0}
IsTask (Some (TheTaskAbort t)) = Unit {0}
IsTask (Some _) = ⊥

abbrev pub AttemptAt : ActorStage → Life → Option Operation → Type 0
AttemptAt stage.New Idle d = d ≡ None
AttemptAt stage.New Busy d = Held Abort d
AttemptAt stage.New Dead d = Unit {0}
AttemptAt stage.Writing Idle d = ⊥
AttemptAt stage.Writing Busy d = Held Write d
AttemptAt stage.Writing Dead d = Unit {0}
AttemptAt stage.Written Idle d = HasWritten d
AttemptAt stage.Written Busy d = Held Abort d
AttemptAt stage.Written Dead d = Unit {0}
AttemptAt stage.Committing Idle d = ⊥
AttemptAt stage.Committing Busy d = Held Commit d
AttemptAt stage.Committing Dead d = Unit {0}
AttemptAt _ l d = IsTask d

held_task : (k : Op) (d : Option Operation) → Held k d → IsTask d
held_task k d h = grind arith

busy_task : (s : ActorStage) (d : Option Operation) → AttemptAt s Busy d → IsTask d
busy_task s d h = grind arith

-- ---- it dies

pub attempt_dies : (s : ActorStage) (l : Life) (d : Option Operation) → AttemptAt s l d → AttemptAt s Dead d
attempt_dies s l d h = grind arith

-- ---- it begins an operation

-- A write may begin if the attempt has begun nothing.
pub may_write : (s : ActorStage) (d : Option Operation) → AttemptAt s Idle d → attempt_may Write s ≡ true → d ≡ None
may_write s d h g = grind arith

pub written_is : (d : Option Operation) → HasWritten d → (spare : ℕ) × (repeated : Bool)
    × (d ≡ Some (TheWrite (record { operation = writes.WriteOver tasks.Done; spare = spare; repeated = repeated })))
written_is (Some (TheWrite t)) h = (
  t.spare,
  t.repeated,
  ap (λ x. Some
      (TheWrite (record { operation = x; spare = t.spare; repeated = t.repeated }))) h,
)
written_is _ h = absurd h

-- A commit may begin if the write is done.
pub may_publish : (s : ActorStage) (d : Option Operation) → AttemptAt s Idle d → attempt_may Commit s ≡ true → (spare : ℕ)
    × (repeated : Bool) × (d ≡ Some (TheWrite (record { operation = writes.WriteOver tasks.Done; spare = spare; repeated = repeated })))
may_publish stage.Written d h m = written_is d h
may_publish _ d h m = absurd (false_true refl m)

-- An abort may begin. If the attempt has begun nothing or its write is done, the abort must not begin as Kept.
pub may_abort : (s : ActorStage) (d : Option Operation) (t : Retried TaskAbort) → AttemptAt s Idle d → (d ≡ None → FreeAbort t.operation)
    → (HasWritten d → FreeAbort t.operation) → AttemptAt s Busy (Some (TheTaskAbort t))
may_abort s d t h g e = grind arith

-- ---- its operation ends

-- How an attempt's operation ended.
abbrev pub task_over : Operation → Option TaskEnd
task_over (TheWrite t) = write_over t.operation
task_over (TheTaskCommit t) = task_commit_over t.operation
task_over (TheTaskAbort t) = task_abort_over t.operation
task_over _ = None

held_free : (k : Op) (op : Operation) → Held k (Some op) → is_kept (task_over op) ≡ false
held_free k op h = grind arith

write_is_over : (x : writes.Write) → write_over x ≡ Some tasks.Done → x ≡ writes.WriteOver tasks.Done
write_is_over x h = grind arith

writing_done : (op : Operation) → Held Write (Some op) → task_over op ≡ Some tasks.Done → HasWritten (Some op)
writing_done op h g = grind arith

abbrev pub EndsAt : ActorStage → Operation → TaskEnd → Type 0
EndsAt s op e = AttemptAt (task_ended e s).stage (task_ended e s).life (Some op)

task_ends : (s : ActorStage) (op : Operation) (e : TaskEnd) → AttemptAt s Busy (Some op) → task_over op ≡ Some e → EndsAt s op e
task_ends s op e h g = grind arith

-- When its operation ends, the operation still fits the attempt's new state.
abbrev EndsWith : ActorStage → Operation → OpEnd → Type 0
EndsWith s op e = AttemptAt (ended e s).stage (ended e s).life (Some op)

pub attempt_ends : (s : ActorStage) (op : Operation) (e : OpEnd) → AttemptAt s Busy (Some op) → over op ≡ Some e → EndsWith s op e
attempt_ends s (TheWrite t) e h o = of_sort ends.Task (EndsWith s (TheWrite t)) (write_over t.operation) e o
    (λ x is. task_ends s (TheWrite t) x h is)
attempt_ends s (TheTaskCommit t) e h o = of_sort ends.Task (EndsWith s (TheTaskCommit t)) (task_commit_over t.operation) e o
    (λ x is. task_ends s (TheTaskCommit t) x h is)
attempt_ends s (TheTaskAbort t) e h o = of_sort ends.Task (EndsWith s (TheTaskAbort t)) (task_abort_over t.operation) e o
    (λ x is. task_ends s (TheTaskAbort t) x h is)
attempt_ends s op e h o = absurd (busy_task s (Some op) h)

-- ---- it goes on

held_hears : (g : Setting) (a : Who) (k : Op) (op : Operation) (o : Outcome) → Held k (Some op) → Held k (Some (tells g a op o))
held_hears g a k op o h = grind (arith, step_keeps, free_after, commit_goes, abort_after)

task_hears : (g : Setting) (a : Who) (op : Operation) (o : Outcome) → IsTask (Some op) → IsTask (Some (tells g a op o))
task_hears g a op o h = grind arith

pub attempt_hears : (g : Setting) (a : Who) (s : ActorStage) (op : Operation) (o : Outcome) → AttemptAt s Busy (Some op)
    → AttemptAt s Busy (Some (tells g a op o))
attempt_hears g a stage.New op o h = held_hears g a Abort op o h
attempt_hears g a stage.Writing op o h = held_hears g a Write op o h
attempt_hears g a stage.Written op o h = held_hears g a Abort op o h
attempt_hears g a stage.Committing op o h = held_hears g a Commit op o h
attempt_hears g a _ op o h = task_hears g a op o h

-- The operation of a busy attempt in the stage of its commit is a commit.
pub at_commit : (s : ActorStage) (op : Operation) → is_committing s ≡ true → AttemptAt s Busy (Some op) → Held Commit (Some op)
at_commit s op h g = grind arith
