-- A job's commit after its check goes on as the script's does, and so does a sparing abort or clean.
use Rattle.job_operations.specs.Acts.{stepped, until_clear}
use Rattle.job_operations.specs.Plans.{checked_at, counted}
use Rattle.conflict.specs.Rechecks.{PlannedCheck, check_told}
use Rattle.job_model.specs.JobScript.{Script}
use Rattle.job_protocol.specs.AtWork.{Committing, job_of, job_script, sparing_told}
use Rattle.job_protocol.specs.JobCommits.{commit_start}
use Rattle.job_protocol.specs.Operations.{Setting, after_check}
use Rattle.job_protocol.specs.Rechecks.{Check, check_after}
use Rattle.machine.specs.declared.retrying.Retrying.{Retrying}
use Rattle.retries.specs.Retries.{Got, Item, step, unanswered_by}
use Rattle.s3_types.specs.declared.journal.Outcome.{Outcome}
use Rattle.s3_types.specs.declared.journal.Outcome.TheVariants.{Answered, Slow}
use Rattle.std.proofs.Common.{Bool, None, ap, arith, false, true, ℕ, ◌∙◌, ◌≡◌}
use Rattle.job_protocol.specs.Sparing as sparings

-- ---- by the job's plan

pub sparing_asks_same : (w : Script) (o : sparings.Sparing) → sparings.sparing_asks (job_script (job_of w)) o ≡ sparings.sparing_asks w o
sparing_asks_same w o = grind arith

sparing_same : (w : Script) (o : sparings.Sparing) (i : Item)
    → sparings.sparing_after (job_script (job_of w)) o i ≡ sparings.sparing_after w o i
sparing_same w o i = grind arith

pub sparing_goes : (w : Script) (o : sparings.Sparing) (i : Item)
    → sparing_told (record { plan = job_of w; operation = o }) i ≡ record { plan = job_of w; operation = sparings.sparing_after w o i }
sparing_goes w o i = ap (λ x. record { plan = job_of w; operation = x }) (sparing_same w o i)

check_same : (w : Script) (o : Check) (i : Item) → check_after (job_script (job_of w)) o i ≡ check_after w o i
check_same w o i = grind arith

-- ---- a check with its retries

check_at : (w : Script) (m : PlannedCheck) (i : Item) → m.plan.job ≡ job_of w → (check_told m i).operation ≡ check_after w m.operation i
check_at w m i e = ap (λ j. check_after (job_script j) m.operation i) e ∙ check_same w m.operation i

module _ (w : Script) where
  abbrev after : Check → Item → Check
  after = check_after w

  check_unanswered : (m : PlannedCheck) → m.plan.job ≡ job_of w → (n : ℕ) → n ≡ w.retries → (sent : Bool) (spare : ℕ)
      → counted (unanswered_by n check_told m sent spare).spare (unanswered_by n check_told m sent spare).repeated
      (unanswered_by n check_told m sent spare).operation.operation ≡ unanswered_by w.retries after m.operation sent spare
  check_unanswered m h n g sent spare = grind arith

  pub check_goes : (t : Retrying PlannedCheck) (o : Outcome) → t.machine.plan.job ≡ job_of w → t.retries ≡ w.retries
      → counted (stepped check_told t o).spare (stepped check_told t o).repeated (stepped check_told t o).machine.operation ≡ step w.retries
      after (counted t.spare t.repeated t.machine.operation) o
  check_goes t (Answered x) e r = λ i. counted (r i) false (check_at w t.machine (Got x t.repeated) e i)
  check_goes t Slow e r = check_unanswered t.machine e t.retries r t.repeated t.spare
  check_goes t _ e r = check_unanswered t.machine e t.retries r true t.spare

-- ---- the check until it is clear

-- After the check is clear, the commit is the operation.
pub until_at : (g : Setting) (t : Retrying PlannedCheck) (c : Committing) → c.operation ≡ commit_start g.script None
    → after_check g (counted t.spare t.repeated t.machine.operation) ≡ checked_at (until_clear t) c
until_at g t c e = grind arith
