-- Machines with their retries go on as the operations of the script do.
use Rattle.job_operations.specs.Acts.{stepped}
use Rattle.job_operations.specs.Plans.{counted, known_now}
use Rattle.job_model.specs.Attempts.{Who}
use Rattle.job_model.specs.JobScript.{Script}
use Rattle.job_model.specs.Jobs.{Job}
use Rattle.job_model.specs.Known.{Known}
use Rattle.job_protocol.proofs.Told.{jobs_tell, tasks_tell}
use Rattle.job_protocol.specs.AtWork.{Attempting, Driving, clean_told, job_of, learned, setup_told, task_abort_told, task_abort_wants}
use Rattle.job_protocol.specs.AtWork.{task_commit_told, task_commit_wants, task_of, task_script, write_told, write_wants}
use Rattle.job_protocol.specs.Cleanups.{Clean, clean_after}
use Rattle.job_protocol.specs.Operations.{learn_of}
use Rattle.job_protocol.specs.Setup.{Setup, setup_after}
use Rattle.job_refinement.proofs.Planned.{same_commit, same_write}
use Rattle.machine.specs.declared.retrying.Retrying.{Retrying}
use Rattle.retries.specs.Retries.{Got, Item, WornOut, step}
use Rattle.s3_types.specs.declared.journal.Outcome.{Outcome}
use Rattle.s3_types.specs.declared.journal.Outcome.TheVariants.{Answered, ReplyLost, RequestLost, Slow}
use Rattle.s3_types.specs.declared.reply.Reply.{Reply}
use Rattle.s3_types.specs.declared.request.Request.{Request}
use Rattle.std.proofs.Common.{Bool, Option, ap, arith, cond, false, nat_lt, subst, sym, ℕ, ◌∙◌, ◌≡◌, ◌≤◌}
use Rattle.std.proofs.lemmas.Bool.Decides.{nat_tests}
use Rattle.job_protocol.specs.Writes as writes
use Rattle.job_protocol.specs.TaskCommits as commits
use Rattle.job_protocol.specs.TaskAborts as aborts

-- ---- what sends without an answer teach

-- A slow send teaches what a lost one teaches.
slow : (w : Script) (a : Who) (k : Known) (q : Option Request) → learn_of w a k q Slow ≡ learn_of w a k q RequestLost
slow w a k q = grind arith

hidden : (w : Script) (a : Who) (k : Known) (q : Option Request) → learn_of w a k q ReplyLost ≡ learn_of w a k q RequestLost
hidden w a k q = grind arith

-- A plan gives the script by which a send teaches.
learn_of_by : (w : Script) (n : ℕ) (a : Who) (j k : Known) (q : Option Request) (o : Outcome)
    → learn_of (task_script (task_of w n a j)) a k q o ≡ learn_of w a k q o
learn_of_by w n a j k q o = grind arith

-- ---- an attempt's operation

-- an operation and its attempt's plan
abbrev pub at : {O : Type 0} → Script → ℕ → Who → Known → O → Attempting O
at w n a k o = record { plan = task_of w n a k; operation = o }

-- A machine's operation sends and goes on as the script's operation does.
pub record Tells {O : Type 0} (w : Script) (n : ℕ) (a : Who) (wants : Attempting O → Option Request)
    (told : Attempting O → Item → Attempting O) (asks : Known → O → Option Request) (after : O → Item → O) : Type 0 where
  pub wanted : (k l : Known) (o : O) → l.drawn ≡ k.drawn → asks l o ≡ wants (at w n a k o)
  pub got : (k : Known) (o : O) (r : Reply) (repeated : Bool)
      → told (at w n a k o) (Got r repeated) ≡ at w n a (learn_of w a k (wants (at w n a k o)) (Answered r)) (after o (Got r repeated))
  pub worn : (k : Known) (o : O) → told (at w n a k o) WornOut ≡ at w n a (learn_of w a k (wants (at w n a k o)) RequestLost)
      (after o WornOut)

-- What is known now.
abbrev now : {O : Type 0} → Script → ℕ → Who → (Attempting O → Option Request) → ℕ → ℕ → Known → O → Known
now w n a wants retries spare k o = cond (nat_lt spare retries) (learn_of w a k (wants (at w n a k o)) RequestLost) k

abbrev machine_at : {O : Type 0} → ℕ → ℕ → Bool → Attempting O → Retrying (Attempting O)
machine_at retries spare repeated m = record { machine = m; retries = retries; spare = spare; repeated = repeated }

now_is : {O : Type 0} (w : Script) (n : ℕ) (a : Who) (wants : Attempting O → Option Request) (retries spare : ℕ) (repeated : Bool)
    (k : Known) (o : O) → known_now wants (machine_at retries spare repeated (at w n a k o)) ≡ now w n a wants retries spare k o
now_is w n a wants retries spare repeated k o = ap (λ x. cond (nat_lt spare retries) x k)
    (learn_of_by w n a k k (wants (at w n a k o)) RequestLost)

pub not_self : (n : ℕ) → nat_lt n n ≡ false
not_self n = grind (arith, nat_tests)

pub drawn_by : (w : Script) (a : Who) (k : Known) (q : Option Request) (b : Bool)
    → (cond b (learn_of w a k q RequestLost) k).drawn ≡ k.drawn
drawn_by w a k q b = grind arith

-- An operation, and what is known, after one send.
pub record Same {O : Type 0} (w : Script) (a : Who) (wants : Attempting O → Option Request) (asks : Known → O → Option Request)
    (after : O → Item → O) (t t' : Retrying (Attempting O)) (out : Outcome) : Type 0 where
  pub operation : counted t'.spare t'.repeated t'.machine.operation ≡ step w.retries after (counted t.spare t.repeated t.machine.operation)
      out
  pub known : known_now wants t' ≡ learn_of w a (known_now wants t) (asks (known_now wants t) t.machine.operation) out

module _ {O : Type 0} {w : Script} {n : ℕ} {a : Who} {wants : Attempting O → Option Request} {told : Attempting O → Item → Attempting O}
    {asks : Known → O → Option Request} {after : O → Item → O} (h : Tells w n a wants told asks after) where
  -- What is known before, and the request.
  known_before : (retries spare : ℕ) (repeated : Bool) (k : Known) (o : O) (out : Outcome)
      → learn_of w a (known_now wants (machine_at retries spare repeated (at w n a k o)))
      (asks (known_now wants (machine_at retries spare repeated (at w n a k o))) o) out ≡ learn_of w a k (wants (at w n a k o)) out
  known_before retries spare repeated k o out = grind arith

  goes_at : (spare : ℕ) (repeated : Bool) (k : Known) (o : O) (out : Outcome) → spare ≤ w.retries
      → Same w a wants asks after (machine_at w.retries spare repeated (at w n a k o))
      (stepped told (machine_at w.retries spare repeated (at w n a k o)) out) out
  goes_at spare repeated k o out le =
      let q = wants (at w n a k o) in
      let before = known_before w.retries spare repeated k o out in
      record {
        operation = grind (arith, h.got k o, h.worn k o);
        known = grind (arith, nat_tests, before, h.got k o, h.worn k o, slow w a k q, hidden w a k q, learn_of_by w n a k k q RequestLost);
      }

  -- A machine with the plan that the script gives goes on as the script says.
  pub attempts_go : (t : Retrying (Attempting O)) (out : Outcome) → t.machine.plan ≡ task_of w n a t.machine.plan.known
      → t.retries ≡ w.retries → t.spare ≤ t.retries → Same w a wants asks after t (stepped told t out) out
  attempts_go t out p r le =
      subst (λ x. Same w a wants asks after (record {
        machine = record { plan = x; operation = t.machine.operation };
        retries = t.retries;
        spare = t.spare;
        repeated = t.repeated;
      }) (stepped told
      (record {
        machine = record { plan = x; operation = t.machine.operation };
        retries = t.retries;
        spare = t.spare;
        repeated =
            t.repeated;
      }) out) out) (sym p)
      (subst (λ x. Same w a wants asks after (machine_at x t.spare t.repeated (at w n a t.machine.plan.known t.machine.operation))
      (stepped told (machine_at x t.spare t.repeated (at w n a t.machine.plan.known t.machine.operation)) out) out) (sym r)
      (goes_at t.spare t.repeated t.machine.plan.known t.machine.operation out (subst (λ x. t.spare ≤ x) r le)))

  -- It sends the request that the script's operation sends.
  pub attempts_ask : (t : Retrying (Attempting O)) → t.machine.plan ≡ task_of w n a t.machine.plan.known
      → wants t.machine ≡ asks (known_now wants t) t.machine.operation
  attempts_ask t p =
      subst (λ x. wants (record { plan = x; operation = t.machine.operation }) ≡ asks
      (known_now wants (record {
        machine = record { plan = x; operation = t.machine.operation };
        retries = t.retries;
        spare = t.spare;
        repeated = t.repeated;
      })) t.machine.operation) (sym p)
      (let k = t.machine.plan.known in
      let o = t.machine.operation in
      sym (ap (λ l. asks l o) (now_is w n a wants t.retries t.spare t.repeated k o) ∙ h.wanted k (now w n a wants t.retries t.spare k o) o
      (drawn_by w a k (wants (at w n a k o)) (nat_lt t.spare t.retries))))

-- ---- the three operations of an attempt

-- An operation with its plan that sends and goes on as with the script.
tells_by : {O : Type 0} (w : Script) (n : ℕ) (a : Who) (wants : Attempting O → Option Request) (told : Attempting O → Item → Attempting O)
    (asks : Known → O → Option Request) (after : O → Item → O)
    → ((k l : Known) (o : O) → l.drawn ≡ k.drawn → asks l o ≡ wants (at w n a k o))
    → ((k : Known) (o : O) (i : Item) → told (at w n a k o) i ≡ at w n a (learned (task_script (task_of w n a k)) a k (wants (at w n a k o))
    i) (after o i)) → Tells w n a wants told asks after
tells_by w n a wants told asks after h g = grind arith

pub write_tells : (w : Script) (n : ℕ) (a : Who) → Tells w n a write_wants write_told (writes.write_asks w a) (writes.write_after w n)
write_tells w n a = tells_by w n a write_wants write_told (writes.write_asks w a) (writes.write_after w n)
    (λ k l o e. same_write w a l k e o ∙ sym (tasks_tell.write_asks w n a k k o))
    (λ k o i. ap (at w n a _) (tasks_tell.write_goes w n a k o i))

pub task_commit_tells : (w : Script) (n : ℕ) (a : Who)
    → Tells w n a task_commit_wants task_commit_told (commits.task_commit_asks w a) (commits.task_commit_after w n a)
task_commit_tells w n a =
    tells_by w n a task_commit_wants task_commit_told (commits.task_commit_asks w a) (commits.task_commit_after w n a)
    (λ k l o e. same_commit w a l k e o ∙ sym (tasks_tell.commit_asks w n a k k o))
    (λ k o i. ap (at w n a _) (tasks_tell.commit_goes w n a k o i))

pub abort_tells : (w : Script) (n : ℕ) (a : Who) → Tells w n a task_abort_wants task_abort_told (λ k. aborts.task_abort_asks w a)
    (aborts.task_abort_after w)
abort_tells w n a = tells_by w n a task_abort_wants task_abort_told (λ k. aborts.task_abort_asks w a) (aborts.task_abort_after w)
    (λ k l o e. sym (tasks_tell.abort_asks w n a k o)) (λ k o i. ap (at w n a _) (tasks_tell.abort_goes w n a k o i))

-- ---- the driver's operations

pub driver_goes : {O : Type 0} (j : Job) (retries : ℕ) (told : Driving O → Item → Driving O) (after : O → Item → O)
    → ((o : O) (i : Item) → told (record { plan = j; operation = o }) i ≡ record { plan = j; operation = after o i })
    → (t : Retrying (Driving O)) (out : Outcome) → t.machine.plan ≡ j → t.retries ≡ retries
    → counted (stepped told t out).spare (stepped told t out).repeated (stepped told t out).machine.operation ≡ step retries after
    (counted t.spare t.repeated t.machine.operation) out
driver_goes j retries told after h t out g e = grind arith

pub setup_goes : (w : Script) (o : Setup) (i : Item)
    → setup_told (record { plan = job_of w; operation = o }) i ≡ record { plan = job_of w; operation = setup_after w o i }
setup_goes w o i = ap (λ x. record { plan = job_of w; operation = x }) (jobs_tell.setup_goes w o i)

pub clean_goes : (w : Script) (o : Clean) (i : Item)
    → clean_told (record { plan = job_of w; operation = o }) i ≡ record { plan = job_of w; operation = clean_after w o i }
clean_goes w o i = ap (λ x. record { plan = job_of w; operation = x }) (jobs_tell.clean_goes w o i)
