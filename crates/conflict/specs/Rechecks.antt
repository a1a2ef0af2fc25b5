-- The check before a commit at a shared destination, with its plan.
use Rattle.conflict.specs.declared.check_plan.CheckPlan.{CheckPlan}
use Rattle.job_protocol.specs.AtWork.{job_script}
use Rattle.job_protocol.specs.Conflicts.{checks_all, checks_partitions}
use Rattle.job_protocol.specs.Rechecks.{Check, check_after, check_asks, check_by}
use Rattle.retries.specs.Retries.{Item}
use Rattle.s3_types.specs.declared.request.Request.{Request}
use Rattle.std.specs.Prelude.{Option}

-- A check and its plan.
pub record PlannedCheck : Type 0 where
  pub plan : CheckPlan
  pub operation : Check

-- The check with which a plan begins.
abbrev pub check_of_plan : CheckPlan → Check
check_of_plan p = check_by (checks_all p.job.committer p.job.mode) (checks_partitions p.job.committer p.job.mode) p.partitions

-- A plan's check that has sent nothing yet.
abbrev pub check_begun : CheckPlan → PlannedCheck
check_begun p = record { plan = p; operation = check_of_plan p }

-- The request that a check sends next.
abbrev pub check_wants : PlannedCheck → Option Request
check_wants m = check_asks (job_script m.plan.job) m.operation

-- The check after its request was answered or exhausted its retries.
abbrev pub check_told : PlannedCheck → Item → PlannedCheck
check_told m i = record { plan = m.plan; operation = check_after (job_script m.plan.job) m.operation i }
