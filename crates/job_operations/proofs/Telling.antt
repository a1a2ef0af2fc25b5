-- Operations after outcomes, and after memory ran out.
use Rattle.job_operations.specs.Acts.{checked_end, checked_wants, end_of, is_clear, under, until_clear, wants_of}
use Rattle.job_operations.specs.declared.act.Act.TheVariants.{AbortTask, Clean, Commit, CommitTask, Setup, Sparing, Write}
use Rattle.commit_lanes.specs.Fitting.{without_memory}
use Rattle.conflict.specs.Rechecks.{PlannedCheck, check_told, check_wants}
use Rattle.job_actor.specs.Acts.{EndsWanting}
use Rattle.job_protocol.specs.AtWork.{Attempting, Committing, Driving, clean_told, clean_wants, commit_wants, setup_told, setup_wants}
use Rattle.job_protocol.specs.AtWork.{sparing_told, sparing_wants, task_abort_told, task_abort_wants, task_commit_told, task_commit_wants}
use Rattle.job_protocol.specs.AtWork.{write_told, write_wants}
use Rattle.machine.specs.Turns.{retried}
use Rattle.machine.specs.declared.retrying.Retrying.{Retrying}
use Rattle.retries.specs.Retries.{OutOfMemory, Retried}
use Rattle.std.proofs.Common.{None, Some, ap, cond, false, refl, subst, sym, true, ℕ, ◌∙◌, ◌≡◌}
use Rattle.std.specs.Option.{option_map}
use Rattle.job_model.specs.declared.ends.OpEnd.TheVariants as ends
use Rattle.job_protocol.specs.Setup as setups
use Rattle.job_protocol.specs.Writes as writes
use Rattle.job_protocol.specs.TaskCommits as commits
use Rattle.job_protocol.specs.TaskAborts as aborts
use Rattle.job_protocol.specs.JobCommits as jobs
use Rattle.job_protocol.specs.Cleanups as cleans
use Rattle.job_protocol.specs.Rechecks as checks
use Rattle.job_protocol.specs.Sparing as sparings

-- A machine from its counter and its retries.
pub whole : {M : Type 0} (t : Retrying M) (x : Retried M) (retries : ℕ) → retried t ≡ x → t.retries ≡ retries → t ≡ under retries x
whole t x retries e r = ap (λ n. record { machine = t.machine; retries = n; spare = t.spare; repeated = t.repeated }) r ∙ ap (under retries)
    e

pub machine_of : {M : Type 0} (t : Retrying M) (x : Retried M) → retried t ≡ x → t.machine ≡ x.operation
machine_of t x e = ap (λ r. r.operation) e

-- ---- a check that is clear, or not

pub past_clear : (t : Retrying PlannedCheck) → is_clear (checks.check_over t.machine.operation) ≡ true → until_clear t ≡ None
past_clear t e = ap (λ b. cond b None (Some t)) e

pub not_clear : (t : Retrying PlannedCheck) → is_clear (checks.check_over t.machine.operation) ≡ false → until_clear t ≡ Some t
not_clear t e = ap (λ b. cond b None (Some t)) e

-- ---- after memory ran out

pub setup_wanting : (t u : Retrying (Driving setups.Setup)) → u.machine ≡ setup_told t.machine OutOfMemory
    → EndsWanting (wants_of (Setup u)) (end_of (Setup u))
setup_wanting t u e = subst (λ m. EndsWanting (setup_wants m) (option_map ends.Setup (setups.setup_over m.operation))) (sym e)
    (record { none = refl; wanting = refl })

pub write_wanting : (t u : Retrying (Attempting writes.Write)) → u.machine ≡ write_told t.machine OutOfMemory
    → EndsWanting (wants_of (Write u)) (end_of (Write u))
write_wanting t u e = subst (λ m. EndsWanting (write_wants m) (option_map ends.Task (writes.write_over m.operation))) (sym e)
    (record { none = refl; wanting = refl })

pub commit_task_wanting : (t u : Retrying (Attempting commits.TaskCommit)) → u.machine ≡ task_commit_told t.machine OutOfMemory
    → EndsWanting (wants_of (CommitTask u)) (end_of (CommitTask u))
commit_task_wanting t u e = subst (λ m. EndsWanting (task_commit_wants m) (option_map ends.Task (commits.task_commit_over m.operation)))
    (sym e) (record { none = refl; wanting = refl })

pub abort_task_wanting : (t u : Retrying (Attempting aborts.TaskAbort)) → u.machine ≡ task_abort_told t.machine OutOfMemory
    → EndsWanting (wants_of (AbortTask u)) (end_of (AbortTask u))
abort_task_wanting t u e = subst (λ m. EndsWanting (task_abort_wants m) (option_map ends.Task (aborts.task_abort_over m.operation))) (sym e)
    (record { none = refl; wanting = refl })

pub commit_wanting : (c d : Committing) → d ≡ without_memory c → EndsWanting (wants_of (Commit d)) (end_of (Commit d))
commit_wanting c d e = subst (λ m. EndsWanting (commit_wants m) (option_map ends.Commit (jobs.commit_over m.operation))) (sym e)
    (record { none = refl; wanting = refl })

pub clean_wanting : (t u : Retrying (Driving cleans.Clean)) → u.machine ≡ clean_told t.machine OutOfMemory
    → EndsWanting (wants_of (Clean u)) (end_of (Clean u))
clean_wanting t u e = subst (λ m. EndsWanting (clean_wants m) (option_map ends.Clean (cleans.clean_over m.operation))) (sym e)
    (record { none = refl; wanting = refl })

pub sparing_wanting : (t u : Retrying (Driving sparings.Sparing)) → u.machine ≡ sparing_told t.machine OutOfMemory
    → EndsWanting (wants_of (Sparing u)) (end_of (Sparing u))
sparing_wanting t u e = subst (λ m. EndsWanting (sparing_wants m) (option_map ends.Clean (sparings.sparing_over m.operation))) (sym e)
    (record { none = refl; wanting = refl })

pub check_wanting : (t u : Retrying PlannedCheck) (c : Committing) → u.machine ≡ check_told t.machine OutOfMemory
    → EndsWanting (checked_wants (Some u) c) (checked_end (Some u) c)
check_wanting t u c e = subst (λ m. EndsWanting (check_wants m) (option_map ends.Check (checks.check_over m.operation))) (sym e)
    (record { none = refl; wanting = refl })

-- The same after its check is clear.
pub behind_wanting : (c d : Committing) → d ≡ without_memory c → EndsWanting (checked_wants None d) (checked_end None d)
behind_wanting c d e = commit_wanting c d e
