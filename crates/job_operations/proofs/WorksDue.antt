-- Each outcome that a job's actor must expect for its request fits.
use Rattle.job_operations.proofs.Going.{drawn_by}
use Rattle.job_operations.proofs.WorksFew.{reads_few}
use Rattle.job_operations.proofs.WorksGo.{asks, behind, commit_at, few_now}
use Rattle.job_operations.proofs.WorksSparing.{sparing_due}
use Rattle.job_operations.proofs.WorksStand.{attempt_is, driver_is, late_by, late_set, own_now, run, scene_is, setup_now, stand}
use Rattle.job_operations.specs.Acts.{FitsAct, wants_of}
use Rattle.job_operations.specs.Plans.{IsAttempt, IsOf, counted, known_now, running_of}
use Rattle.job_operations.specs.declared.act.Act.{Act}
use Rattle.job_operations.specs.declared.act.Act.TheVariants.{AbortTask, Checked, Clean, Commit, CommitTask, Setup, Sparing, Write}
use Rattle.text_and_lists.proofs.Members.{none_some}
use Rattle.text_and_lists.proofs.Naturals.{above_zero}
use Rattle.cleanup.specs.Fits.{FitsDriving as clean_fits}
use Rattle.cleanup.specs.SparingFits.{FitsSparingDriving as sparing_fits}
use Rattle.commit_lanes.specs.Fitting.{FitsCommit}
use Rattle.conflict.specs.Fits.{FitsCheck as check_fits}
use Rattle.conflict.specs.Rechecks.{PlannedCheck, check_wants}
use Rattle.job_actor.specs.Posting.{DueFits}
use Rattle.job_actor.specs.Works.{IsAt}
use Rattle.job_invariant.specs.Facts.{IsAttempt as IsDeclared}
use Rattle.job_invariant.specs.Fits.{Fits}
use Rattle.job_invariant.specs.Spares.{FitsSparing}
use Rattle.job_invariant.specs.Told.{known}
use Rattle.job_model.specs.Attempts.{Who, actor_of}
use Rattle.job_model.specs.Jobs.{Job, Task}
use Rattle.job_model.specs.Known.{Known}
use Rattle.job_protocol.specs.AtWork.{Attempting, Committing, Driving, clean_wants, commit_wants, job_of, setup_wants, sparing_wants}
use Rattle.job_protocol.specs.AtWork.{task_abort_wants, task_commit_wants, task_of, task_script, who_of, write_wants}
use Rattle.job_protocol.specs.JobCommits.{commit_asks}
use Rattle.job_protocol.specs.Operations.{Operation, Setting}
use Rattle.job_refinement.proofs.Attempts.{abort_due, commit_due, write_due}
use Rattle.job_refinement.proofs.Drivers.{check_due, clean_due, job_due, setup_due}
use Rattle.job_refinement.specs.Due.{FitsDue}
use Rattle.job_setup.specs.Fits.{FitsDriving as setup_fits}
use Rattle.script_steps.specs.Transitions.{Play, knows_now, scene_of}
use Rattle.protocol_runs.proofs.Running.{Late}
use Rattle.protocol_runs.specs.Runs.{Stand, is_set}
use Rattle.machine.specs.Turns.{FitsOutcome}
use Rattle.machine.specs.declared.retrying.Retrying.{Retrying}
use Rattle.s3_types.specs.Answer.{answer}
use Rattle.s3_types.specs.Moment.{IsHonestOutcome}
use Rattle.s3_types.specs.Store.{Content, Scene}
use Rattle.s3_types.specs.declared.journal.Outcome.{Outcome}
use Rattle.s3_types.specs.declared.reply.Reply.{Reply}
use Rattle.s3_types.specs.declared.request.Actor.{Actor}
use Rattle.s3_types.specs.declared.request.Actor.TheVariants.{Driver}
use Rattle.s3_types.specs.declared.request.Request.{Request}
use Rattle.std.proofs.Common.{Bool, None, Option, Some, ap, arith, inl, inr, nat_lt, subst, sym, true, ◌<◌, ◌∙◌, ◌≡◌}
use Rattle.task_operation.specs.Aborts.{abort_fits as task_abort_fits}
use Rattle.task_operation.specs.Commits.{commit_fits as task_commit_fits}
use Rattle.task_requests.specs.Writing.{write_fits}
use Rattle.job_protocol.specs.Setup as setups
use Rattle.job_protocol.specs.Writes as writes
use Rattle.job_protocol.specs.TaskCommits as commits
use Rattle.job_protocol.specs.TaskAborts as aborts
use Rattle.job_protocol.specs.Cleanups as cleans
use Rattle.job_protocol.specs.Sparing as sparings
use Rattle.protocol_runs.proofs.Running as running

-- The answer that S3 must give to a machine's request fits the machine with its retries.
outcome_fits : {M : Type 0} (wants : M → Option Request) (fits : M → Reply → Bool → Type 0) (t : Retrying M) (s : Scene)
    → FitsDue wants fits t.machine s → (r : Request) (o : Outcome) → wants t.machine ≡ Some r → IsHonestOutcome o (answer s r)
    → FitsOutcome fits t o
outcome_fits wants fits t s h r o g e = grind arith

-- The same with an equal plan.
driving_by : {O : Type 0} (wants : Driving O → Option Request) (fits : Driving O → Reply → Bool → Type 0) (m : Driving O) (j : Job)
    (s : Scene) → m.plan ≡ j → FitsDue wants fits (record { plan = j; operation = m.operation }) s → FitsDue wants fits m s
driving_by wants fits m j s e h = subst (λ p. FitsDue wants fits (record { plan = p; operation = m.operation }) s) (sym e) h

attempting_by : {O : Type 0} (wants : Attempting O → Option Request) (fits : Attempting O → Reply → Bool → Type 0) (m : Attempting O)
    (t : Task) (s : Scene) → m.plan ≡ t → FitsDue wants fits (record { plan = t; operation = m.operation }) s → FitsDue wants fits m s
attempting_by wants fits m t s e h = subst (λ p. FitsDue wants fits (record { plan = p; operation = m.operation }) s) (sym e) h

-- The uploads that a plan knows are those that its attempt now knows.
drawn_is : {O : Type 0} (wants : Attempting O → Option Request) (t : Retrying (Attempting O)) (k : Known) → known_now wants t ≡ k
    → t.machine.plan.known.drawn ≡ k.drawn
drawn_is wants t k e = sym (drawn_by (task_script t.machine.plan) (who_of t.machine.plan) t.machine.plan.known (wants t.machine)
    (nat_lt t.spare t.retries)) ∙ ap (λ (v : Known). v.drawn) e

module _ (g : Setting) (opening : Content) (x : Play) where
  abbrev At : Actor → Act → Type 0
  At a work = IsAt IsOf running_of g opening x a work

  abbrev Due : Act → Type 0
  Due work = DueFits wants_of FitsAct work (scene_of opening x)

  -- An actor that runs an attempt's operation is an attempt.
  pub by_attempt : (a : Actor) (work : Act) → (h : IsAttempt a) → At a work → (b : Who) × (a ≡ actor_of b) × At (actor_of b) work
  by_attempt a work h at = (record { task = h.0; attempt = h.1 }, h.2, subst (λ c. At c work) h.2 at)

  module _ {a : Actor} {work : Act} (at : At a work) where
    abbrev here : Stand
    here = stand g opening x at.legal at.opens at.happened

    -- A fact about the answers in the derived state is a fact about the current answers.
    due_now : {M : Type 0} (wants : M → Option Request) (fits : M → Reply → Bool → Type 0) (t : Retrying M)
        → FitsDue wants fits t.machine here.seen.scene → (r : Request) (o : Outcome) → wants t.machine ≡ Some r
        → IsHonestOutcome o (answer (scene_of opening x) r) → FitsOutcome fits t o
    due_now wants fits t h r o e honest = outcome_fits wants fits t (scene_of opening x)
        (subst (FitsDue wants fits t.machine) (scene_is g opening x at.legal at.opens at.happened) h) r o e honest

    -- The driver's current operation.
    driver_at : a ≡ Driver → here.driver ≡ Some (running_of (knows_now g x a) work).operation
    driver_at is = driver_is g opening x at.legal at.opens at.happened a (running_of (knows_now g x a) work) is at.at

    late_driver : is_set here.driver ≡ true → Late g opening here
    late_driver set = late_set g opening x at.legal at.opens at.happened set

  -- ---- the driver's

  due_setup : (a : Actor) (t : Retrying (Driving setups.Setup)) → At a (Setup t) → Due (Setup t)
  due_setup a t at = due_now at setup_wants setup_fits t (λ r e repeated. elim
      (setup_now g opening x at.legal at.opens at.happened (counted t.spare t.repeated t.machine.operation)
      (driver_at at at.goes_by.actor)) [
        | inl over ↦ absurd (none_some (ap (λ v. setup_wants (record { plan = t.machine.plan; operation = v })) over) e)
        | inr up ↦ driving_by setup_wants setup_fits t.machine (job_of g.script) (here at).seen.scene at.goes_by.plan
            (setup_due g.script (here at).seen.scene t.machine.operation up.0) r e repeated
      ])

  due_clean : (a : Actor) (t : Retrying (Driving cleans.Clean)) → At a (Clean t) → Due (Clean t)
  due_clean a t at =
      let l = late_driver at (ap is_set (driver_at at at.goes_by.actor)) in
      due_now at clean_wants clean_fits t (driving_by clean_wants clean_fits t.machine (job_of g.script) (here at).seen.scene
      at.goes_by.plan (clean_due g.script (here at).seen.scene l.hold.there t.machine.operation))

  due_commit : (a : Actor) (c : Committing) → At a (Commit c) → Due (Commit c)
  due_commit a c at r o e honest =
      let s = (here at).seen in
      let v = commit_at g opening x a c at in
      let few = few_now g opening x a (Commit c) at in
      let due : IsHonestOutcome o (answer s.scene r) = subst (λ z. IsHonestOutcome o (answer z r))
      (sym (scene_is g opening x at.legal at.opens at.happened)) honest in
      let asked : commit_asks g.script c.operation ≡ Some r = sym (asks g opening x a (Commit c) at) ∙ e in
      let is : c.plan ≡ job_of g.script = at.goes_by.1 in
      let wanted : commit_wants (record { plan = job_of g.script; picked = c.picked; operation = c.operation }) ≡ Some r = ap
      (λ p. commit_wants (record { plan = p; picked = c.picked; operation = c.operation })) (sym is) ∙ e in
      record {
        lanes = subst (λ (p : Job). 0 < p.lanes) (sym is) (above_zero at.legal.one_lane);
        fits = subst (λ p. FitsCommit (record { plan = p; picked = c.picked; operation = c.operation }) o) (sym is)
            (job_due g.script g.minimum s (here at).told at.legal few c.operation v.commits v.stands c.picked r wanted o due);
        few = reads_few g.script g.minimum s.scene s.last (here at).told at.legal v.commits.hold few c.operation v.commits.fits r asked o
            due;
      }

  due_sparing : (a : Actor) (t : Retrying (Driving sparings.Sparing)) → At a (Sparing t) → Due (Sparing t)
  due_sparing a t at =
      let s = (here at).seen in
      let d = driver_at at at.goes_by.actor in
      let l = late_driver at (ap is_set d) in
      let fits : FitsSparing g.script (here at).told.drawn t.machine.operation = subst (λ v. running.At g opening v s (here at).told) d
      l.driver in
      let due = sparing_due g.script g.minimum s.scene s.last (here at).told at.legal l.hold (few_now g opening x a (Sparing t) at) l.filed
      t.machine.operation fits in
      due_now at sparing_wants sparing_fits t (driving_by sparing_wants sparing_fits t.machine (job_of g.script) s.scene at.goes_by.plan
      due)

  -- ---- the driver's commit after its check

  check_by : (m : PlannedCheck) (j : Job) (s : Scene) → m.plan.job ≡ j
      → FitsDue check_wants check_fits (record { plan = record { job = j; partitions = m.plan.partitions }; operation = m.operation }) s
      → FitsDue check_wants check_fits m s
  check_by m j s e h = subst (λ p. FitsDue check_wants check_fits (record
      { plan = record { job = p; partitions = m.plan.partitions }; operation = m.operation }) s) (sym e) h

  due_checked : (a : Actor) (q : Option (Retrying PlannedCheck)) (c : Committing) → At a (Checked (record { check = q; commit = c }))
      → Due (Checked (record { check = q; commit = c }))
  due_checked a (Some t) c at =
      let l = late_driver at (ap is_set (driver_at at at.goes_by.actor)) in
      due_now at check_wants check_fits t (check_by t.machine (job_of g.script) (here at).seen.scene at.goes_by.plan
      (check_due g.script (here at).seen.scene l.hold.there t.machine.plan.partitions t.machine.operation))
  due_checked a None c at = due_commit a c (behind g opening x a c at)

  -- ---- an attempt's

  module _ {work : Act} (b : Who) (at : At (actor_of b) work) where
    abbrev op : Operation
    op = (running_of (knows_now g x (actor_of b)) work).operation

    attempt_at : (here at).attempts b ≡ Some op
    attempt_at = attempt_is g opening x at.legal at.opens at.happened b (running_of (knows_now g x (actor_of b)) work) at.at

    pub late_attempt : Late g opening (here at)
    late_attempt = late_by g opening x at.legal at.opens at.happened b op attempt_at

    pub fine_at : IsDeclared g.script b × Fits g.script g.minimum b (here at).told op
    fine_at = late_attempt.fine b op attempt_at

    -- The attempt's operation knows what the entries told the attempt.
    known_at : (running_of (knows_now g x (actor_of b)) work).known ≡ known (here at).told b
    known_at = (run g opening x at.legal at.opens at.happened).last b (running_of (knows_now g x (actor_of b)) work) at.at

  due_write : (b : Who) (t : Retrying (Attempting writes.Write)) → At (actor_of b) (Write t) → Due (Write t)
  due_write b t at =
      let s = (here at).seen in
      let k = t.machine.plan.known in
      let l = late_attempt b at in
      let h = write_due g.script g.minimum s.scene s.last (here at).told at.legal l.hold b k
      (drawn_is write_wants t (known (here at).told b) (known_at b at)) t.machine.operation (fine_at b at).1.1 in
      due_now at write_wants write_fits t (attempting_by write_wants write_fits t.machine (task_of g.script g.minimum b k) s.scene
      at.goes_by.plan h)

  due_task_commit : (b : Who) (t : Retrying (Attempting commits.TaskCommit)) → At (actor_of b) (CommitTask t) → Due (CommitTask t)
  due_task_commit b t at =
      let s = (here at).seen in
      let k = t.machine.plan.known in
      let l = late_attempt b at in
      let own = own_now g opening x at.legal at.opens at.happened b (op b at) (attempt_at b at) in
      let few = few_now g opening x (actor_of b) (CommitTask t) at in
      let h = commit_due g.script g.minimum s.scene s.last (here at).told at.legal l.hold b k
      (drawn_is task_commit_wants t (known (here at).told b) (known_at b at)) few t.machine.operation (fine_at b at).1.1 own in
      due_now at task_commit_wants task_commit_fits t (attempting_by task_commit_wants task_commit_fits t.machine
      (task_of g.script g.minimum b k) s.scene at.goes_by.plan h)

  due_task_abort : (b : Who) (t : Retrying (Attempting aborts.TaskAbort)) → At (actor_of b) (AbortTask t) → Due (AbortTask t)
  due_task_abort b t at =
      let k = t.machine.plan.known in
      let h = abort_due g.script g.minimum (here at).seen.scene (late_attempt b at).hold.there b k t.machine.operation in
      due_now at task_abort_wants task_abort_fits t (attempting_by task_abort_wants task_abort_fits t.machine
      (task_of g.script g.minimum b k) (here at).seen.scene at.goes_by.plan h)

pub due : (g : Setting) (opening : Content) (x : Play) (a : Actor) (work : Act) → IsAt IsOf running_of g opening x a work
    → DueFits wants_of FitsAct work (scene_of opening x)
due g opening x a (Setup t) at = due_setup g opening x a t at
due g opening x a (Write t) at = let b = by_attempt g opening x a (Write t) at.goes_by.actor at in due_write g opening x b.0 t b.2
due g opening x a (CommitTask t) at = let b = by_attempt g opening x a (CommitTask t) at.goes_by.actor at in due_task_commit g opening x b.0
    t b.2
due g opening x a (AbortTask t) at = let b = by_attempt g opening x a (AbortTask t) at.goes_by.actor at in due_task_abort g opening x b.0 t
    b.2
due g opening x a (Commit c) at = due_commit g opening x a c at
due g opening x a (Clean t) at = due_clean g opening x a t at
due g opening x a (Sparing t) at = due_sparing g opening x a t at
due g opening x a (Checked y) at = due_checked g opening x a y.check y.commit at
