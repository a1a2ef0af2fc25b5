-- The lives and stages of a job's actors, what each of them began last, and what the driver knows, read from its events and their ends.
use Rattle.job_model.specs.Attempts.{actor_of}
use Rattle.job_model.specs.JobScript.{Script}
use Rattle.job_model.specs.declared.ends.ActorEnd.{ActorEnd}
use Rattle.job_model.specs.declared.ends.CheckEnd.{CheckEnd}
use Rattle.job_model.specs.declared.ends.CleanEnd.{CleanEnd}
use Rattle.job_model.specs.declared.ends.CommitEnd.{CommitEnd}
use Rattle.job_model.specs.declared.ends.EventEnd.{EventEnd}
use Rattle.job_model.specs.declared.ends.EventEnd.TheVariants.{Done, Ended, Mixed, Refused}
use Rattle.job_model.specs.declared.ends.EventFault.{EventFault}
use Rattle.job_model.specs.declared.ends.OpEnd.{OpEnd}
use Rattle.job_model.specs.declared.ends.SetupEnd.{SetupEnd}
use Rattle.job_model.specs.declared.ends.TaskEnd.{TaskEnd}
use Rattle.job_model.specs.declared.events.Event.{Event}
use Rattle.job_model.specs.declared.events.Event.TheVariants.{Do, Kill, Mix, Recover, Restart, Run, Start, Step}
use Rattle.job_model.specs.declared.events.Op.{Op}
use Rattle.job_model.specs.declared.events.Op.TheVariants.{Abort, Clean, Commit, Setup, Write}
use Rattle.job_model.specs.declared.states.ActorStage.{ActorStage}
use Rattle.job_model.specs.declared.states.ActorState.{ActorState}
use Rattle.job_model.specs.declared.states.Life.{Life}
use Rattle.job_model.specs.declared.states.Life.TheVariants.{Busy, Dead, Idle}
use Rattle.job_protocol.specs.Operations.{Reports}
use Rattle.job_protocol.specs.Seen.{Times}
use Rattle.s3_types.specs.declared.request.Actor.{Actor}
use Rattle.s3_types.specs.declared.request.Actor.TheVariants.{Attempt, Driver, Shell}
use Rattle.std.specs.List.{filter, list_any}
use Rattle.std.specs.Prelude.{Bool, List, None, Option, Some, cond, false, if◌then◌else◌, map, nat_eq, not, suc, true, zero, ℕ, [], ◌&&◌}
use Rattle.std.specs.Prelude.{◌+◌, ◌||◌, ◌∷◌}
use Rattle.job_model.specs.declared.ends.SetupEnd.TheVariants as setups
use Rattle.job_model.specs.declared.ends.TaskEnd.TheVariants as tasks
use Rattle.job_model.specs.declared.ends.CheckEnd.TheVariants as checks
use Rattle.job_model.specs.declared.ends.CommitEnd.TheVariants as commits
use Rattle.job_model.specs.declared.ends.CleanEnd.TheVariants as cleans
use Rattle.job_model.specs.declared.ends.OpEnd.TheVariants as ends
use Rattle.job_model.specs.declared.ends.EventFault.TheVariants as faults
use Rattle.job_model.specs.declared.states.ActorStage.TheVariants as stage

-- ---- actors

-- True if both actors are the same.
abbrev pub same_actor : Actor → Actor → Bool
same_actor Driver Driver = true
same_actor (Attempt t a) (Attempt u b) = nat_eq t u && nat_eq a b
same_actor Shell Shell = true
same_actor _ _ = false

-- The driver, and then the attempts in script order.
abbrev pub actors : Script → List Actor
actors w = Driver ∷ map (λ a. actor_of a.0) w.attempts

-- ---- lives and stages

-- The stage of an actor once it begins an operation.
abbrev pub stage_begun : Actor → Op → ActorStage → ActorStage
stage_begun a Setup s = s
stage_begun a Write s = stage.Writing
stage_begun a Commit s = stage.Committing
stage_begun Driver Abort s = stage.Aborted
stage_begun a Abort s = s
stage_begun a Clean s = s

-- The stage of an attempt whose operation ended with Done, by its stage before.
abbrev pub stage_done : ActorStage → ActorStage
stage_done stage.Writing = stage.Written
stage_done stage.Committing = stage.Committed
stage_done _ = stage.Aborted

-- The state of an idle actor in this stage.
abbrev pub idle : ActorStage → ActorState
idle s = record { life = Idle; stage = s }

-- The state of a dead actor in this stage.
abbrev pub dead : ActorStage → ActorState
dead s = record { life = Dead; stage = s }

-- The driver's state after a set-up with this end.
abbrev pub setup_ended : SetupEnd → ActorStage → ActorState
setup_ended setups.Done s = idle stage.Set
setup_ended setups.NoMemory s = dead s
setup_ended _ s = idle stage.New

-- The driver's state after a commit with this end.
abbrev pub commit_ended : CommitEnd → ActorStage → ActorState
commit_ended commits.Committed s = idle stage.Committed
commit_ended commits.NoMemory s = dead s
commit_ended _ s = idle stage.Failed

-- The driver's state after a check with this end, if no commit follows.
abbrev pub check_ended : CheckEnd → ActorStage → ActorState
check_ended checks.NoMemory s = dead s
check_ended _ s = idle stage.Failed

-- The driver's state after an abort or clean with this end.
abbrev pub clean_ended : CleanEnd → ActorStage → ActorState
clean_ended cleans.NoMemory s = dead s
clean_ended _ s = idle s

-- An attempt's state after an operation with this end.
abbrev pub task_ended : TaskEnd → ActorStage → ActorState
task_ended tasks.Done s = idle (stage_done s)
task_ended tasks.Kept s = idle s
task_ended tasks.NoMemory s = dead s
task_ended _ s = idle stage.Failed

-- The state of an actor after its operation ended. If memory runs out, the actor is dead.
abbrev pub ended : OpEnd → ActorStage → ActorState
ended (ends.Setup e) s = setup_ended e s
ended (ends.Commit e) s = commit_ended e s
ended (ends.Clean e) s = clean_ended e s
ended (ends.Check e) s = check_ended e s
ended (ends.Task e) s = task_ended e s
ended ends.NoMemory s = dead s

-- The stage of a new driver: the old one's stage, or `Failed` if the old one was committing.
abbrev pub restarted : ActorStage → ActorStage
restarted stage.Committing = stage.Failed
restarted s = s

-- ---- reading the events

-- The function with the value v at the actor a.
abbrev pub put : {X : Type 0} → (Actor → X) → Actor → X → Actor → X
put f a v b = cond (same_actor b a) v (f b)

-- An operation that an actor began: the number of its event, and what the driver knew of its tasks then.
pub record Doing : Type 0 where
  pub op : Op
  pub since : ℕ
  pub reports : Reports

-- What is known of the last set-up or commit of the driver.
pub data Decided : Type 0 where
  NotBegun : Decided
  -- It was begun and has not ended.
  Unended : Decided
  EndedSo : (end : OpEnd) → Decided

-- The state of a job after some of its events.
pub record Past : Type 0 where
  -- The number of events.
  pub events : ℕ
  -- The state of each actor, and the operation that it began last.
  pub state : Actor → ActorState
  pub doing : Actor → Option Doing
  -- The number of the job attempt: it rises by 1 with each restart.
  pub attempt : ℕ
  -- True for each attempt that reported a successful commit since the last restart.
  pub reported : Actor → Bool
  -- The driver's last set-up and its commit.
  pub setup : Decided
  pub commit : Decided

-- The least of the n tasks from t on that fails the test, or none.
abbrev pub first_not : (ℕ → Bool) → ℕ → ℕ → Option ℕ
first_not p t zero = None
first_not p t (suc n) = cond (p t) (first_not p (t + 1) n) (Some t)

-- True if an attempt of the task has reported its commit.
abbrev pub is_reported : Script → (Actor → Bool) → ℕ → Bool
is_reported w reported t = list_any (λ a. nat_eq a.0.task t && reported (actor_of a.0)) w.attempts

-- The lowest task without a reported commit, or none.
abbrev pub missing : Script → (Actor → Bool) → Option ℕ
missing w reported = first_not (is_reported w reported) 0 w.tasks

-- The lowest task without a reported commit, and the attempts that reported theirs, in script order.
abbrev pub reports : Script → (Actor → Bool) → Reports
reports w reported = record { missing = missing w reported; attempts = filter (λ a. reported (actor_of a)) (map (λ a. a.0) w.attempts) }

-- The driver's last set-up, after an actor begins an operation.
abbrev pub setup_begun : Actor → Op → Decided → Decided
setup_begun Driver Setup d = Unended
setup_begun _ _ d = d

-- The driver's commit, after an actor begins an operation.
abbrev pub commit_begun : Actor → Op → Decided → Decided
commit_begun Driver Commit d = Unended
commit_begun _ _ d = d

-- The state after an actor begins an operation.
abbrev pub begin : Script → Past → Actor → Op → Past
begin w p a op = record {
  events = p.events;
  state = put p.state a (record { life = Busy; stage = stage_begun a op (p.state a).stage });
  doing = put p.doing a (Some (record { op = op; since = p.events + 1; reports = reports w p.reported }));
  attempt = p.attempt;
  reported = p.reported;
  setup = setup_begun a op p.setup;
  commit = commit_begun a op p.commit;
}

-- The state after an actor is killed.
abbrev pub kill : Past → Actor → Past
kill p a = record p { state = put p.state a (dead (p.state a).stage) }

-- The state after a restart: the new driver knows none of the earlier reports.
abbrev pub restart : Past → Past
restart p = record p {
  state = put p.state Driver (idle (restarted (p.state Driver).stage));
  attempt = p.attempt + 1;
  reported = λ a. false;
}

-- The state after an event that is not refused began, and before its requests.
abbrev pub open_event : Script → Past → Event → Past
open_event w p (Do a op) = begin w p a op
open_event w p (Start a op) = begin w p a op
open_event w p (Kill a) = kill p a
open_event w p Restart = restart p
open_event w p _ = p

-- True if this is the stage during a commit.
abbrev pub is_committing : ActorStage → Bool
is_committing stage.Committing = true
is_committing _ = false

-- True if an operation of an attempt ended with Done.
abbrev pub is_done : OpEnd → Bool
is_done (ends.Task tasks.Done) = true
is_done _ = false

-- The reported attempts, after an operation ended: an attempt whose commit is Done is one of them.
abbrev pub report : Actor → ActorStage → OpEnd → (Actor → Bool) → Actor → Bool
report a s e reported = put reported a (reported a || (is_committing s && is_done e))

-- True if the actor began a set-up last.
abbrev pub is_setup : Option Doing → Bool
is_setup None = false
is_setup (Some d) = is d.op
  where
    is : Op → Bool
    is Setup = true
    is _ = false

-- True if the actor began a commit last.
abbrev pub is_commit : Option Doing → Bool
is_commit None = false
is_commit (Some d) = is d.op
  where
    is : Op → Bool
    is Commit = true
    is _ = false

-- The end of a set-up or commit of the driver; other ends leave what is known of it unchanged.
abbrev pub decide : Actor → Bool → OpEnd → Decided → Decided
decide Driver true e d = EndedSo e
decide _ _ e d = d

-- The state after an actor's operation ended.
abbrev pub end_op : Past → ActorEnd → Past
end_op p x = record {
  events = p.events;
  state = put p.state x.actor (ended x.end (p.state x.actor).stage);
  doing = p.doing;
  attempt = p.attempt;
  reported = report x.actor (p.state x.actor).stage x.end p.reported;
  setup = decide x.actor (is_setup (p.doing x.actor)) x.end p.setup;
  commit = decide x.actor (is_commit (p.doing x.actor)) x.end p.commit;
}

-- The state after these operations ended, in this order.
abbrev pub end_ops : Past → List ActorEnd → Past
end_ops p [] = p
end_ops p (x ∷ xs) = end_ops (end_op p x) xs

-- The actor of an event. A mix has none, and gives `Shell`.
abbrev pub actor_named : Event → Actor
actor_named (Do a op) = a
actor_named (Start a op) = a
actor_named (Step a n) = a
actor_named (Run a) = a
actor_named (Kill a) = a
actor_named (Mix seed) = Shell
actor_named Restart = Driver
actor_named (Recover a) = a

-- The operations that ended in an event, in order.
abbrev pub told : Event → EventEnd → List ActorEnd
told ev (Ended e) = record { actor = actor_named ev; end = e } ∷ []
told ev (Mixed xs) = xs
told ev _ = []

-- The state with one more event counted.
abbrev pub count : Past → Past
count p = record p { events = p.events + 1 }

-- The state after one more event. A refused event only counts.
abbrev pub after_event : Script → Past → Event → EventEnd → Past
after_event w p ev (Refused f) = count p
after_event w p ev end = count (end_ops (open_event w p ev) (told ev end))

-- The state before the first event: all actors are idle and new.
abbrev pub nothing_past : Past
nothing_past = record {
  events = 0;
  state = λ a. idle stage.New;
  doing = λ a. None;
  attempt = 1;
  reported = λ actor. false;
  setup = NotBegun;
  commit = NotBegun;
}

-- The state after these events with these ends.
abbrev pub past_from : Script → Past → List Event → List EventEnd → Past
past_from w p evs [] = p
past_from w p [] (x ∷ xs) = p
past_from w p (ev ∷ evs) (x ∷ xs) = past_from w (after_event w p ev x) evs xs

-- The state after the first events, which had these ends.
abbrev pub past : Script → List EventEnd → Past
past w xs = past_from w nothing_past w.events xs

-- ---- refusals, in the order of the checks

-- True if this is the stage before a set-up or a write.
abbrev pub is_new : ActorStage → Bool
is_new stage.New = true
is_new _ = false

-- True if this is the stage after a set-up that is Done.
abbrev pub is_set : ActorStage → Bool
is_set stage.Set = true
is_set _ = false

-- True if this is the stage after a write that is Done.
abbrev pub is_written : ActorStage → Bool
is_written stage.Written = true
is_written _ = false

-- True if this is the stage after a commit that is Done.
abbrev pub is_committed : ActorStage → Bool
is_committed stage.Committed = true
is_committed _ = false

-- True if this is the stage after an operation that failed.
abbrev pub is_failed : ActorStage → Bool
is_failed stage.Failed = true
is_failed _ = false

-- True if this is the stage after an abort.
abbrev pub is_aborted : ActorStage → Bool
is_aborted stage.Aborted = true
is_aborted _ = false

-- True if the driver may begin the operation in this stage.
abbrev pub driver_may : Op → ActorStage → Bool
driver_may Setup s = is_new s
driver_may Commit s = is_set s
driver_may Abort s = is_set s || is_failed s || is_aborted s
driver_may Clean s = is_committed s || is_failed s || is_aborted s
driver_may Write s = false

-- True if an attempt may begin the operation in this stage.
abbrev pub attempt_may : Op → ActorStage → Bool
attempt_may Write s = is_new s
attempt_may Commit s = is_written s
attempt_may Abort s = not (is_aborted s)
attempt_may _ s = false

-- True if the actor may begin the operation in this stage.
abbrev pub may : Actor → Op → ActorStage → Bool
may Driver op s = driver_may op s
may (Attempt t a) op s = attempt_may op s
may Shell op s = false

-- True if the operation must wait until a set-up is Done: every one except the driver's set-up.
abbrev pub needs_set : Actor → Op → Bool
needs_set Driver Setup = false
needs_set _ _ = true

-- Why an idle actor may not begin an operation, or none.
abbrev pub refuse_op : ActorStage → Actor → Op → ActorStage → Option EventFault
refuse_op driver a op s = if needs_set a op && is_new driver then Some faults.NotSet else
    (if may a op s then None else Some faults.WrongState)

-- Why an actor may not begin an operation: a dead or busy one begins nothing.
abbrev pub refuse_begin : Life → Option EventFault → Option EventFault
refuse_begin Dead r = Some faults.Dead
refuse_begin Busy r = Some faults.Busy
refuse_begin Idle r = r

-- Why an actor may not send: only a busy one has requests to send.
abbrev pub refuse_move : Life → Option EventFault
refuse_move Dead = Some faults.Dead
refuse_move Idle = Some faults.Idle
refuse_move Busy = None

-- Why an actor may not be killed: a dead one is not killed again.
abbrev pub refuse_kill : Life → Option EventFault
refuse_kill Dead = Some faults.Dead
refuse_kill _ = None

-- Why a driver may not be restarted: only a dead one is.
abbrev pub refuse_restart : Life → Option EventFault
refuse_restart Dead = None
refuse_restart _ = Some faults.NotDead

-- Why an event is refused, or none. Recovery of an attempt is always refused.
abbrev pub refusal : (Actor → ActorState) → Event → Option EventFault
refusal st (Do a op) = refuse_begin (st a).life (refuse_op (st Driver).stage a op (st a).stage)
refusal st (Start a op) = refuse_begin (st a).life (refuse_op (st Driver).stage a op (st a).stage)
refusal st (Step a n) = refuse_move (st a).life
refusal st (Run a) = refuse_move (st a).life
refusal st (Kill a) = refuse_kill (st a).life
refusal st (Mix seed) = None
refusal st Restart = refuse_restart (st Driver).life
refusal st (Recover a) = Some faults.NoRecovery

-- ---- the event of the job's commit

-- True if the event begins the driver's commit.
abbrev pub begins_commit : Event → Bool
begins_commit (Do Driver Commit) = true
begins_commit (Start Driver Commit) = true
begins_commit _ = false

-- True if the event was refused.
abbrev pub is_refused : EventEnd → Bool
is_refused (Refused f) = true
is_refused _ = false

-- True if the event begins an abort or a clean of the job.
abbrev pub begins_clean : Event → Bool
begins_clean (Do Driver Abort) = true
begins_clean (Do Driver Clean) = true
begins_clean (Start Driver Abort) = true
begins_clean (Start Driver Clean) = true
begins_clean _ = false

-- The number of the first event, numbered from n on, that passes the test and is not refused; an event without an end counts too.
abbrev pub event_from : (Event → Bool) → ℕ → List Event → List EventEnd → Option ℕ
event_from p n [] xs = None
event_from p n (ev ∷ evs) [] = cond (p ev) (Some n) (event_from p (n + 1) evs [])
event_from p n (ev ∷ evs) (x ∷ xs) = cond (p ev && not (is_refused x)) (Some n) (event_from p (n + 1) evs xs)

-- The number of the first event, numbered from n on, that begins the driver's commit and is not refused.
abbrev pub commit_from : ℕ → List Event → List EventEnd → Option ℕ
commit_from n evs xs = event_from begins_commit n evs xs

-- The number of the first event that begins the driver's commit and is not refused, or none.
abbrev pub commit_event : Script → List EventEnd → Option ℕ
commit_event w xs = commit_from 1 w.events xs

-- The number of the first event that begins the driver's abort or clean and is not refused, or none.
abbrev pub clean_event : Script → List EventEnd → Option ℕ
clean_event w xs = event_from begins_clean 1 w.events xs

-- The numbers of the events in which the job's commit and its first abort or clean begin, if they do.
abbrev pub times : Script → List EventEnd → Times
times w xs = record { commit = commit_event w xs; clean = clean_event w xs }

-- ---- the status of a run

-- The status by the end that decides: 0 for Committed, 8 if a request ran out of retries, 9 if memory ran out, and 1 otherwise.
abbrev pub end_verdict : OpEnd → ℕ
end_verdict (ends.Commit commits.Committed) = 0
end_verdict (ends.Commit (commits.StoreFault s)) = 8
end_verdict (ends.Commit commits.NoMemory) = 9
end_verdict (ends.Check checks.StoreFault) = 8
end_verdict (ends.Check checks.NoMemory) = 9
end_verdict (ends.Setup setups.StoreFault) = 8
end_verdict (ends.Setup setups.NoMemory) = 9
end_verdict ends.NoMemory = 9
end_verdict _ = 1

-- The status by a set-up or commit: its end decides, 1 if it has not ended, and `other` if it was never begun.
abbrev pub verdict_or : ℕ → Decided → ℕ
verdict_or other NotBegun = other
verdict_or other Unended = 1
verdict_or other (EndedSo e) = end_verdict e

-- The status of a run. The driver's commit decides it, or its last set-up if no commit was begun, and it is 1 if neither was.
abbrev pub verdict : Script → List EventEnd → ℕ
verdict w xs = verdict_or (verdict_or 1 (past w xs).setup) (past w xs).commit
