-- An actor begins an operation that the job's runs allow.
use Rattle.text_and_lists.proofs.Members.{false_true}
use Rattle.job_invariant.proofs.Whose.{attempt}
use Rattle.job_invariant.specs.Facts.{IsAttempt}
use Rattle.job_invariant.specs.Told.{known}
use Rattle.job_model.specs.Attempts.{Who, actor_of, is_known}
use Rattle.job_model.specs.JobScript.{Script}
use Rattle.job_model.specs.Known.{Known}
use Rattle.job_model.specs.Legal.{HasOp, IsLegal}
use Rattle.job_model.specs.declared.events.Event.TheVariants.{Do}
use Rattle.job_model.specs.declared.events.Op.{Op}
use Rattle.job_model.specs.declared.events.Op.TheVariants.{Abort, Clean, Commit, Setup, Write}
use Rattle.job_model.specs.declared.states.ActorStage.{ActorStage}
use Rattle.job_model.specs.declared.states.ActorState.{ActorState}
use Rattle.job_model.specs.declared.states.Life.TheVariants.{Busy, Idle}
use Rattle.job_protocol.proofs.Begun.{clean_of_so, commit_of_so}
use Rattle.job_protocol.specs.Knowledge.{knows}
use Rattle.job_protocol.specs.Operations.{Operation, Reports, Running, Setting, TheSetup, TheTaskAbort, TheTaskCommit, TheWrite, clean_of}
use Rattle.job_protocol.specs.Operations.{commit_of, start_of, who}
use Rattle.job_protocol.specs.Seen.{Times}
use Rattle.job_protocol.specs.Setup.{setup_start}
use Rattle.job_protocol.specs.TaskAborts.{TaskAbort, task_abort_start}
use Rattle.job_protocol.specs.TaskCommits.{task_commit_start}
use Rattle.job_protocol.specs.Writes.{WriteOver, write_start}
use Rattle.job_spec.specs.States.{is_new, put, stage_begun}
use Rattle.job_spec.specs.Turns.{by_actor}
use Rattle.script_steps.proofs.RunningAlong.{Along, attempt_begins, driver_begins, set_up, told_known}
use Rattle.script_steps.proofs.RunningCommits.{commit_begins}
use Rattle.script_steps.proofs.RunningNumbers.{known_attempt}
use Rattle.script_steps.proofs.RunningStages.{Begins, Begun, DriverAt, IsBehind, IsTimed, MaySet, behind_at, just_kind, may_commit_job}
use Rattle.script_steps.proofs.RunningStages.{may_setup, new_at, still_begun, timed_on, timed_setting, with_event}
use Rattle.script_steps.proofs.RunningTasks.{AttemptAt, FreeAbort, HasWritten, free_abort, free_start, may_abort, may_publish, may_write}
use Rattle.script_steps.proofs.RunningTasks.{written_is}
use Rattle.script_steps.specs.Running.{operation_of}
use Rattle.script_steps.specs.Transitions.{begun}
use Rattle.protocol_runs.proofs.Entries.{late_now}
use Rattle.protocol_runs.proofs.Running.{Late}
use Rattle.protocol_runs.specs.Runs.{BeginAbort, BeginClean, BeginCommit, BeginPublish, BeginSetup, BeginWrite, IsOpening, MaySetUp, Runs}
use Rattle.protocol_runs.specs.Runs.{Stand, actor_begins, begin, is_just_set, with_attempt}
use Rattle.retries.specs.Retries.{Retried, fresh}
use Rattle.s3_types.specs.Store.{Content}
use Rattle.s3_types.specs.declared.journal.Entry.{Entry}
use Rattle.s3_types.specs.declared.request.Actor.{Actor}
use Rattle.s3_types.specs.declared.request.Actor.TheVariants.{Attempt, Driver, Shell}
use Rattle.std.proofs.Common.{List, None, Option, Some, ap, arith, false, refl, subst, sym, true, ◌||◌, ◌∙◌, ◌≡◌}
use Rattle.std.proofs.Math.Bool.{or-false, or-true}
use Rattle.job_model.specs.declared.ends.TaskEnd.TheVariants as tasks
use Rattle.job_model.specs.declared.states.ActorStage.TheVariants as stage

-- The state of an actor that begins this operation in this stage.
abbrev pub busy_at : Actor → Op → ActorStage → ActorState
busy_at a op s = record { life = Busy; stage = stage_begun a op s }

module _ (g : Setting) (opening : Content) (k : Times) (j : IsLegal g.script) (is_opening : IsOpening g opening) where
  abbrev w : Script
  w = g.script

  -- Another set-up may begin.
  setup_may : (x : Stand) (d : Option Operation) → x.driver ≡ d → MaySet d → ((a : Who) → x.attempts a ≡ None) → MaySetUp x
  setup_may x d h g e = grind arith

  module _ {b : Begun} {es : List Entry} {r : Actor → Option Running} {st : Actor → ActorState} (h : Along g opening k b es r st) where
    -- ---- the driver

    -- An abort or a clean of the job.
    starts_clean : (c : Begun) (kn : Known) (v : ActorState) → is_new (st Driver).stage ≡ false → c.clean ≡ true
        → ((t : Operation) → IsBehind (Some t) → DriverAt v.stage v.life (Some t) × (is_new v.stage ≡ false))
        → Along g opening k c es (put r Driver (Some (record { operation = clean_of g; known = kn }))) (put st Driver v)
    starts_clean c kn v new begun at =
        let op = clean_of g in
        let there = at op (clean_of_so g (λ v. IsBehind (Some v)) tt tt) in
        driver_begins g opening k j is_opening h c (record { operation = op; known = kn }) v (begin g h.stand BeginClean)
        (actor_begins es h.stand BeginClean h.runs (set_up g opening k j is_opening h new)) refl refl refl
        (clean_of_so g (λ v. IsTimed c (Some v)) begun begun) there.0 (λ n. absurd (false_true there.1 n))

    driver_op : (kn : Known) (reports : Reports) (op : Op) → Begins (st Driver).stage Driver op (st Driver).life (st Driver).stage
        → HasOp Driver op
        → Along g opening k (with_event true b (Do Driver op)) es (put r Driver (begun (start_of g Driver op reports kn) kn))
        (put st Driver (busy_at Driver op (st Driver).stage))
    driver_op kn reports Setup may legal =
        let s = (st Driver).stage in
        let m = may_setup s (st Driver).life (operation_of (r Driver)) h.driver_at may.may_begin in
        let op = TheSetup (fresh w.retries setup_start) in
        let may_set = setup_may h.stand (operation_of (r Driver)) h.driver m.2 (λ a. h.attempts a ∙ h.unset m.0 a) in
        let t = timed_setting b (operation_of (r Driver)) h.timed m.1 in
        let early : ((b.commit || false) ≡ false) × ((b.clean || false) ≡ false) = (or-false b.commit ∙ t.0, or-false b.clean ∙ t.1) in
        driver_begins g opening k j is_opening h (still_begun b) (record { operation = op; known = kn }) (busy_at Driver Setup s)
        (begin g h.stand BeginSetup)
        (actor_begins es h.stand BeginSetup h.runs may_set) refl refl refl early (new_at s Busy (fresh w.retries setup_start) m.0) (λ n. n)
    driver_op kn reports Commit may legal =
        let s = (st Driver).stage in
        let just : is_just_set h.stand.driver ≡ true = ap is_just_set h.driver ∙ may_commit_job s (st Driver).life (operation_of (r Driver))
        h.driver_at may.may_begin in
        let t = timed_setting b (operation_of (r Driver)) h.timed (just_kind (operation_of (r Driver))
        (sym (ap is_just_set h.driver) ∙ just)) in
        let timed : ((b.commit || true) ≡ true) × ((b.clean || false) ≡ false) = (or-true b.commit, or-false b.clean ∙ t.1) in
        driver_begins g opening k j is_opening h (with_event true b (Do Driver Commit))
        (record { operation = commit_of g reports; known = kn }) (busy_at Driver Commit s) (begin g h.stand (BeginCommit reports))
        (actor_begins es h.stand (BeginCommit reports) h.runs just) refl refl refl
        (commit_of_so g (λ op. IsTimed (with_event true b (Do Driver Commit)) (Some op)) (λ missing. timed) (λ t. timed) reports)
        (commit_of_so g (λ op. DriverAt stage.Committing Busy (Some op)) (λ missing. tt) (λ t. tt) reports)
        (λ n. absurd (false_true refl n))
    driver_op kn reports Abort may legal = starts_clean (with_event true b (Do Driver Abort)) kn (busy_at Driver Abort (st Driver).stage)
        may.set (or-true b.clean) (λ t i. (i, refl))
    driver_op kn reports Clean may legal =
        starts_clean (with_event true b (Do Driver Clean)) kn (busy_at Driver Clean (st Driver).stage) may.set (or-true b.clean)
        (λ t i. behind_at (st Driver).stage Busy (Some t) i may.may_begin)
    driver_op kn reports Write may legal = absurd legal

    -- Whether the commit has begun does not change.
    pub still : Along g opening k (still_begun b) es r st
    still = record {
      stand = h.stand;
      ran = h.ran;
      timed = timed_on b (operation_of (r Driver)) h.timed;
      driver_at = h.driver_at;
      unset =
          h.unset;
      attempt_at = h.attempt_at;
    }

  -- ---- an attempt

  -- An attempt whose write is done has not sent its publishing request.
  written_sent : (x : Stand) → Late g opening x → (a : Who) (d : Option Operation) → x.attempts a ≡ d → HasWritten d
      → (known x.told a).publish_sent ≡ false
  written_sent x l a d e h =
      let at = written_is d h in
      ((l.fine a (TheWrite (record { operation = WriteOver tasks.Done; spare = at.0; repeated = at.1 })) (e ∙ at.2)).1.1 refl).0.0

  module _ {b : Begun} {es : List Entry} {r : Actor → Option Running} {st : Actor → ActorState} (h : Along g opening k b es r st) (a : Who)
      (kn : Known)
      (learnt : kn ≡ known h.stand.told a) (is : IsAttempt w a) where
    abbrev Goes : Op → Option Running → Type 0
    Goes op m = Along g opening k (still_begun b) es (put r (actor_of a) m) (put st (actor_of a)
        (busy_at (actor_of a) op (st (actor_of a)).stage))

    starts : (op : Op) (v : Operation) → is_new (st Driver).stage ≡ false → Runs g k opening es (with_attempt h.stand a v)
        → AttemptAt (stage_begun (actor_of a) op (st (actor_of a)).stage) Busy (Some v)
        → Goes op (Some (record { operation = v; known = kn }))
    starts op v new run at = still (attempt_begins g opening k j is_opening h a (record { operation = v; known = kn })
        (busy_at (actor_of a) op (st (actor_of a)).stage) run new learnt at)

    at_rest : (st (actor_of a)).life ≡ Idle → AttemptAt (st (actor_of a)).stage Idle (operation_of (r (actor_of a)))
    at_rest idle = subst (λ l. AttemptAt (st (actor_of a)).stage l (operation_of (r (actor_of a)))) idle (h.attempt_at a)

    attempt_op : (reports : Reports) (op : Op) → Begins (st Driver).stage (actor_of a) op (st (actor_of a)).life (st (actor_of a)).stage
        → HasOp (actor_of a) op
        → Goes op (begun (start_of g (actor_of a) op reports kn) kn)
    attempt_op reports Write m legal =
        let none : h.stand.attempts a ≡ None = h.attempts a ∙ may_write (st (actor_of a)).stage (operation_of (r (actor_of a)))
        (at_rest m.idle) m.may_begin in
        starts Write (TheWrite (fresh w.retries (write_start w a))) m.set (actor_begins es h.stand (BeginWrite a) h.runs
        (set_up g opening k j is_opening h m.set, is, none)) (free_start w a)
    attempt_op reports Commit m legal =
        let p = may_publish (st (actor_of a)).stage (operation_of (r (actor_of a))) (at_rest m.idle) m.may_begin in
        starts Commit (TheTaskCommit (fresh w.retries (task_commit_start w a))) m.set
        (actor_begins es h.stand (BeginPublish a) h.runs (set_up g opening k j is_opening h m.set, (p.0, p.1, h.attempts a ∙ p.2)))
        (commit_begins w a)
    attempt_op reports Abort m legal =
        let x = h.stand in
        let set = set_up g opening k j is_opening h m.set in
        let late = late_now g k opening j is_opening es x h.runs set in
        let t : Retried TaskAbort = fresh w.retries (task_abort_start w kn) in
        let run = subst (λ v. Runs g k opening es (with_attempt x a (TheTaskAbort (fresh w.retries (task_abort_start w v))))) (sym learnt)
        (actor_begins es x (BeginAbort a) h.runs (set, is)) in
        let unsent : (known x.told a).publish_sent ≡ false
        → FreeAbort (task_abort_start w kn) = λ e. free_abort w kn (ap (λ (v : Known). v.publish_sent) learnt ∙ e) in
        starts Abort (TheTaskAbort t) m.set run
        (may_abort (st (actor_of a)).stage (operation_of (r (actor_of a))) t (at_rest m.idle)
        (λ e. unsent (ap (λ (v : Known). v.publish_sent) (late.new a (h.attempts a ∙ e)).0))
        (λ y. unsent (written_sent x late a (operation_of (r (actor_of a))) (h.attempts a) y)))
    attempt_op reports _ m legal = absurd legal

  -- ---- any actor

  pub begins : {b : Begun} {es : List Entry} {r : Actor → Option Running} {st : Actor → ActorState} (h : Along g opening k b es r st)
      (a : Actor) (op : Op) (reports : Reports)
      → Begins (st Driver).stage a op (st a).life (st a).stage → is_known w.attempts a ≡ true → HasOp a op
      → Along g opening k (with_event true b (Do a op)) es (put r a
      (begun (start_of g a op reports (knows w (who a) (by_actor a es))) (knows w (who a) (by_actor a es))))
      (put st a (busy_at a op (st a).stage))
  begins {es = es} h Driver op reports m one legal = driver_op h (knows w (who Driver) (by_actor Driver es)) reports op m legal
  begins {es = es} h (Attempt t n) op reports m one legal =
      let a = attempt t n in
      attempt_op h a (knows w a (by_actor (Attempt t n) es)) (sym (told_known g opening k j is_opening es h.stand h.runs a))
      (known_attempt j t n one) reports op m legal
  begins h Shell op reports m one legal = absurd legal
