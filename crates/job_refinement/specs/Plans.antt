-- The states of the machines of a job's actors, with the plans that a script gives.
use Rattle.conflict.specs.Rechecks.{PlannedCheck}
use Rattle.job_model.specs.Attempts.{Who}
use Rattle.job_model.specs.JobScript.{Script}
use Rattle.job_model.specs.Known.{Known}
use Rattle.job_protocol.specs.AtWork.{Attempting, Committing, Driving, job_of, learned, task_of}
use Rattle.job_protocol.specs.JobCommits.{Commit}
use Rattle.job_protocol.specs.Rechecks.{Check}
use Rattle.retries.specs.Retries.{Got, Item, Retried, WornOut, is_zero}
use Rattle.s3_types.specs.declared.journal.Outcome.{Outcome}
use Rattle.s3_types.specs.declared.journal.Outcome.TheVariants.{Answered}
use Rattle.s3_types.specs.declared.request.Request.{Request}
use Rattle.std.specs.Prelude.{Bool, List, None, Option, Some, false, true, ℕ}

-- ---- operations with the plans that the script gives

-- An operation with the plan of an attempt that knows `k`.
abbrev pub at_work : {O : Type 0} → Script → ℕ → Who → Known → O → Attempting O
at_work w minimum a k op = record { plan = task_of w minimum a k; operation = op }

-- An attempt's operation with retries, and with the plan that the script gives.
abbrev pub planned : {O : Type 0} → Script → ℕ → Who → Known → Retried O → Retried (Attempting O)
planned w minimum a k t = record { operation = at_work w minimum a k t.operation; spare = t.spare; repeated = t.repeated }

-- An operation with the driver's plan.
abbrev pub driving : {O : Type 0} → Script → O → Driving O
driving w op = record { plan = job_of w; operation = op }

-- A driver's operation with retries, and with the plan that the script gives.
abbrev pub driven : {O : Type 0} → Script → Retried O → Retried (Driving O)
driven w t = record { operation = driving w t.operation; spare = t.spare; repeated = t.repeated }

-- The driver's commit, with the attempts whose sets it has read.
abbrev pub committing : Script → List ℕ → Commit → Committing
committing w picked c = record { plan = job_of w; picked = picked; operation = c }

-- A check of these partitions before a commit, with the driver's plan.
abbrev pub rechecking : Script → List (List ℕ) → Check → PlannedCheck
rechecking w partitions c = record { plan = record { job = job_of w; partitions = partitions }; operation = c }

-- ---- what a machine learns from a send

-- That the request exhausted its retries, or nothing.
abbrev pub worn_if : Bool → Option Item
worn_if true = Some WornOut
worn_if false = None

-- The reply, or that the request exhausted its retries; nothing if the request is sent again.
abbrev pub heard : {O : Type 0} → Retried O → Outcome → Option Item
heard t (Answered r) = Some (Got r t.repeated)
heard t _ = worn_if (is_zero t.spare)

-- What the plan of an attempt's machine knows after that.
abbrev pub known_then : Script → Who → Known → Option Request → Option Item → Known
known_then w a k r (Some i) = learned w a k r i
known_then w a k r None = k
