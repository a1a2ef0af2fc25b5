-- Operations as they begin.
use Rattle.job_operations.proofs.Going.{not_self}
use Rattle.job_operations.specs.Acts.{until_clear}
use Rattle.job_operations.specs.inner.Begins.{BeginsClean, BeginsCommit, BeginsJob, BeginsSetup, BeginsTask, Begun, StartsSo, abort_task_of}
use Rattle.job_operations.specs.inner.Begins.{check_of, clean_by, commit_by, commit_task_of, driver_commit, is_missing, setup_of, unsent}
use Rattle.job_operations.specs.inner.Begins.{write_of}
use Rattle.job_operations.specs.Plans.{IsOf, OfAttempt, counted, known_now, picks_of, running_of}
use Rattle.job_operations.specs.declared.act.Act.{Act}
use Rattle.job_operations.specs.declared.act.Act.TheVariants.{Checked, Commit}
use Rattle.text_and_lists.proofs.Members.{some_is}
use Rattle.commit_lanes.specs.Fitting.{least_missing}
use Rattle.commit_lanes.specs.CommitEnds.{start}
use Rattle.conflict.specs.Rechecks.{PlannedCheck}
use Rattle.job_actor.specs.Plans.{IsPlanOf}
use Rattle.job_actor.specs.Reports.{IsReport}
use Rattle.job_actor.specs.Works.{Starts}
use Rattle.job_actor.specs.declared.reported.Reported.{Reported}
use Rattle.job_model.specs.Attempts.{Who, actor_of}
use Rattle.job_model.specs.Jobs.{Job, Task}
use Rattle.job_model.specs.Known.{Known}
use Rattle.job_model.specs.Legal.{IsLegal}
use Rattle.job_model.specs.declared.events.Op.{Op}
use Rattle.job_protocol.proofs.Told.{tasks_tell}
use Rattle.job_protocol.specs.AtWork.{Attempting, Committing, job_of, task_commit_wants, task_of, task_script, who_of, write_wants}
use Rattle.job_protocol.specs.JobCommits.{commit_over}
use Rattle.job_protocol.specs.Operations.{Reports, Setting, TheSetup, TheTaskCommit, TheWrite, learn_of, start_of}
use Rattle.job_protocol.specs.Setup.{setup_start}
use Rattle.job_protocol.specs.TaskCommits.{task_commit_start}
use Rattle.job_protocol.specs.Writes.{write_start}
use Rattle.job_refinement.proofs.Telling.{begins_same}
use Rattle.machine.specs.declared.retrying.Retrying.{Retrying}
use Rattle.s3_types.specs.declared.journal.Outcome.TheVariants.{RequestLost}
use Rattle.s3_types.specs.declared.request.Actor.{Actor}
use Rattle.s3_types.specs.declared.request.Actor.TheVariants.{Attempt, Driver, Shell}
use Rattle.s3_types.specs.declared.request.Mode.{Mode}
use Rattle.s3_types.specs.declared.request.Mode.TheVariants.{Fail}
use Rattle.s3_types.specs.declared.request.Request.{Request}
use Rattle.std.proofs.Common.{IfOk, List, Option, Result, Some, ap, arith, cond, false, refl, subst, sym, true, ℕ, [], ◌∙◌, ◌≡◌}
use Rattle.std.specs.Prelude.{is_some}
use Rattle.job_model.specs.declared.events.Op.TheVariants as ops
use Rattle.job_protocol.specs.Operations as protocol
use Rattle.job_actor.specs.declared.plan.Plan.TheVariants as plans

-- ---- the driver's

pub begins_setup : (j : Job) → BeginsSetup j (setup_of j)
begins_setup j g Driver r k e =
    let n = ap (λ (x : Job). x.retries) e in
    record {
      is_of = record { actor = refl; plan = e; retries = n };
      starts = ap (λ n. Some (TheSetup (counted n false setup_start))) (sym n);
      known = refl;
    }
begins_setup j g _ r k e = absurd e

-- ---- an abort or clean

-- The abort or clean, by the reported partitions.
cleaning : (j : Job) (dirs : Option (List (List ℕ))) (g : Setting) (k : Known) → is_some dirs ≡ g.shared → j ≡ job_of g.script
    → IsOf g Driver (clean_by j dirs) × (protocol.clean_of g ≡ (running_of k (clean_by j dirs)).operation)
    × ((running_of k (clean_by j dirs)).known ≡ k)
cleaning j dirs g k h e = grind arith

begins_cleaning : (j : Job) (x : Reported) (op : Op)
    → ((g : Setting) (r : Reports) (k : Known) → start_of g Driver op r k ≡ Some (protocol.clean_of g))
    → BeginsJob op j x (clean_by j x.partitions)
begins_cleaning j x op is g Driver r k report e =
    let c = cleaning j x.partitions g k report.shared e in
    record { is_of = c.0; starts = is g r k ∙ ap (λ o. Some o) c.1; known = c.2 }
begins_cleaning j x op is g _ r k report e = absurd e

pub begins_clean : (j : Job) (x : Reported) → BeginsClean j x (clean_by j x.partitions)
begins_clean j x = record { clean = begins_cleaning j x ops.Clean (λ g r k. refl); abort = begins_cleaning j x ops.Abort (λ g r k. refl) }

-- ---- the job's commit

-- The commit has no check if a task is missing, and else comes after one.
module _ (j : Job) (reported : List ℕ) (dirs : List (List ℕ)) (c : Committing) (is : c ≡ start j (least_missing j.tasks reported)) where
  pub alone_missing : is_missing (commit_over c.operation) ≡ true
      → Commit c ≡ commit_by j reported (Some dirs) Fail (least_missing j.tasks reported)
  alone_missing h = grind arith

  pub checked_whole : is_missing (commit_over c.operation) ≡ false → (t : Retrying PlannedCheck) → t ≡ check_of j dirs
      → Checked (record { check = until_clear t; commit = c }) ≡ commit_by j reported (Some dirs) Fail (least_missing j.tasks reported)
  checked_whole h t g = grind arith

-- The operation has the job's plan, and is this one.
record Goes (g : Setting) (k : Known) (op : protocol.Operation) (act : Act) : Type 0 where
  is_of : IsOf g Driver act
  same : op ≡ (running_of k act).operation
  known : (running_of k act).known ≡ k

commit_begins : (j : Job) (x : Reported) (g : Setting) (r : Reports) (k : Known) → IsReport g Driver ops.Commit x r → j ≡ job_of g.script
    → StartsSo g.script r.missing → Goes g k (protocol.commit_of g r) (driver_commit j x)
commit_begins j x g r k h e f = grind arith

pub begins_commit : (j : Job) (x : Reported) → BeginsCommit j x (driver_commit j x)
begins_commit j x = grind (arith, commit_begins)

-- ---- an attempt's

-- If an attempt begins so, whoever has its plan does.
by_attempt : (op : Op) (t : Task) (act : Act) → ((g : Setting) (a : Who) (r : Reports) → t ≡ task_of g.script g.minimum a t.known
    → Begun g (actor_of a) op r t.known act) → BeginsTask op t act
by_attempt op t act f g Driver r k h = absurd h
by_attempt op t act f g Shell r k h = absurd h
by_attempt op t act f g (Attempt task attempt) r k h =
    let a : Who = record { task = task; attempt = attempt } in
    let known : t.known ≡ k = ap (λ x. x.known) h in
    subst (λ x. Begun g (actor_of a) op r x act) known (f g a r (subst (λ x. t ≡ task_of g.script g.minimum a x) (sym known) h))

-- Its first request was never sent.
known_first : {O : Type 0} (wants : Attempting O → Option Request) (t : Task) (o : O)
    → known_now wants (unsent t.job.retries (record { plan = t; operation = o })) ≡ t.known
known_first wants t o = ap (λ b. cond b (learn_of (task_script t) (who_of t) t.known (wants (record { plan = t; operation = o }))
    RequestLost) t.known) (not_self t.job.retries)

is_first : {O : Type 0} (g : Setting) (a : Who) (t : Task) (o : O) → t ≡ task_of g.script g.minimum a t.known
    → OfAttempt g (actor_of a) (unsent t.job.retries (record { plan = t; operation = o }))
is_first g a t o h = record { actor = (a.task, a.attempt, refl); plan = h; retries = ap (λ x. x.job.retries) h; spare = omega arith }

pub begins_write : (t : Task) → BeginsTask ops.Write t (write_of t)
begins_write t = by_attempt ops.Write t (write_of t) (λ g a r h. record {
  is_of = is_first g a t (write_start (task_script t) (who_of t)) h;
  starts = sym (ap (λ x. Some (TheWrite (counted x.job.retries false (write_start (task_script x) (who_of x))))) h ∙ ap
      (λ o. Some (TheWrite (counted g.script.retries false o))) (tasks_tell.write_starts g.script g.minimum a t.known));
  known = known_first write_wants t (write_start (task_script t) (who_of t));
})

pub begins_commit_task : (t : Task) → BeginsTask ops.Commit t (commit_task_of t)
begins_commit_task t = by_attempt ops.Commit t (commit_task_of t) (λ g a r h. record {
  is_of = is_first g a t (task_commit_start (task_script t) (who_of t)) h;
  starts = sym (ap (λ x. Some (TheTaskCommit (counted x.job.retries false (task_commit_start (task_script x) (who_of x))))) h ∙ ap
      (λ o. Some (TheTaskCommit (counted g.script.retries false o))) (tasks_tell.commit_starts g.script g.minimum a t.known));
  known = known_first task_commit_wants t (task_commit_start (task_script t) (who_of t));
})

pub begins_abort_task : (t : Task) → BeginsTask ops.Abort t (abort_task_of t)
begins_abort_task t = grind arith

-- ---- operations as they begin

pub setup_begun : (j : Job) (act : Act) → act ≡ setup_of j → BeginsSetup j act
setup_begun j act e = subst (λ x. BeginsSetup j x) (sym e) (begins_setup j)

pub task_begun : {op : Op} {t : Task} {act is : Act} → BeginsTask op t is → act ≡ is → BeginsTask op t act
task_begun {op} {t} h e = subst (BeginsTask op t) (sym e) h

pub commit_begun : (j : Job) (x : Reported) (act : Act) → act ≡ driver_commit j x → BeginsCommit j x act
commit_begun j x act e = subst (λ a. BeginsCommit j x a) (sym e) (begins_commit j x)

pub commit_begun_if : {E : Type 0} (r : Result Act E) (j : Job) (x : Reported) → IfOk r (λ act. act ≡ driver_commit j x)
    → IfOk r (λ act. BeginsCommit j x act)
commit_begun_if r j x h = grind arith

pub clean_begun : (j : Job) (x : Reported) (act : Act) → act ≡ clean_by j x.partitions → BeginsClean j x act
clean_begun j x act e = subst (λ a. BeginsClean j x a) (sym e) (begins_clean j x)

-- ---- the driver's, as the script begins them

-- The driver begins so for each script that gives the plan.
abbrev pub StartsBy : Op → Job → Reported → Act → Type 0
StartsBy op j x act = (g : Setting) (a : Actor) (k : Known) (r : Reports) → IsReport g a op x r → IsLegal g.script
    → IsPlanOf g a k (plans.Job j) → Starts IsOf running_of picks_of g a op r k act

commit_picks : (j : Job) (reported : List ℕ) (dirs : Option (List (List ℕ))) (m : Mode) (missing : Option ℕ)
    → picks_of (commit_by j reported dirs m missing) ≡ Some []
commit_picks j reported dirs m missing = grind arith

pub commit_starts : (j : Job) (x : Reported) → StartsBy ops.Commit j x (driver_commit j x)
commit_starts j x g a k r report legal plan =
    let b = begins_commit j x g a r k report plan (begins_same g.script legal r.missing) in
    record {
      goes_by = b.is_of;
      starts = b.starts;
      known = b.known;
      picks = λ ps e. some_is
          (sym e ∙ commit_picks j x.tasks x.partitions j.mode (least_missing j.tasks x.tasks));
    }

pub starts_if : {E : Type 0} (op : Op) (j : Job) (x : Reported) (act : Act) → StartsBy op j x act → (r : Result Act E)
    → IfOk r (λ a. a ≡ act)
    → (g : Setting) (a : Actor) (k : Known) (q : Reports) → IsReport g a op x q → IsLegal g.script → IsPlanOf g a k (plans.Job j)
    → IfOk r (λ act. Starts IsOf running_of picks_of g a op q k act)
starts_if op j x act h r e g a k q f p u = grind arith
