-- The statuses of a job and of a command.
use Rattle.durable_job.specs.Jobs.{verdict_of, verdict_of_two}
use Rattle.durable_job.specs.declared.jobs.Jobs.{Jobs}
use Rattle.durable_job.specs.declared.jobs.Jobs.TheVariants.{One, Two}
use Rattle.durable_job.specs.declared.jobs.Told.{Told}
use Rattle.job_model.specs.JobScript.{Script}
use Rattle.job_model.specs.declared.ends.CheckEnd.{CheckEnd}
use Rattle.job_model.specs.declared.ends.CommitEnd.{CommitEnd}
use Rattle.job_model.specs.declared.ends.EventEnd.{EventEnd}
use Rattle.job_model.specs.declared.ends.OpEnd.{OpEnd}
use Rattle.job_model.specs.declared.ends.SetupEnd.{SetupEnd}
use Rattle.job_spec.specs.States.{Decided, EndedSo, NotBegun, Unended, end_verdict, past, verdict, verdict_or}
use Rattle.s3a_top.specs.inner.Plays.{IsFinal}
use Rattle.std.proofs.Common.{Bool, List, false, if◌then◌else◌, inl, inr, refl, true, ℕ, ◌==◌}
use Rattle.job_model.specs.declared.ends.SetupEnd.TheVariants as setups
use Rattle.job_model.specs.declared.ends.CommitEnd.TheVariants as commits
use Rattle.job_model.specs.declared.ends.CheckEnd.TheVariants as checks
use Rattle.job_model.specs.declared.ends.OpEnd.TheVariants as ends

-- ---- verdicts

setup_final : (e : SetupEnd) → IsFinal (end_verdict (ends.Setup e))
setup_final setups.StoreFault = inr (inr (inl refl))
setup_final setups.NoMemory = inr (inr (inr refl))
setup_final _ = inr (inl refl)

check_final : (e : CheckEnd) → IsFinal (end_verdict (ends.Check e))
check_final checks.StoreFault = inr (inr (inl refl))
check_final checks.NoMemory = inr (inr (inr refl))
check_final _ = inr (inl refl)

commit_final : (e : CommitEnd) → IsFinal (end_verdict (ends.Commit e))
commit_final commits.Committed = inl refl
commit_final (commits.StoreFault s) = inr (inr (inl refl))
commit_final commits.NoMemory = inr (inr (inr refl))
commit_final _ = inr (inl refl)

end_final : (e : OpEnd) → IsFinal (end_verdict e)
end_final (ends.Setup e) = setup_final e
end_final (ends.Check e) = check_final e
end_final (ends.Commit e) = commit_final e
end_final ends.NoMemory = inr (inr (inr refl))
end_final _ = inr (inl refl)

decided_final : (other : ℕ) (d : Decided) → IsFinal other → IsFinal (verdict_or other d)
decided_final other NotBegun h = h
decided_final other Unended h = inr (inl refl)
decided_final other (EndedSo e) h = end_final e

-- A verdict is 0, 1, 8 or 9.
verdict_final : (w : Script) (xs : List EventEnd) → IsFinal (verdict w xs)
verdict_final w xs = decided_final (verdict_or 1 (past w xs).setup) (past w xs).commit (decided_final 1 (past w xs).setup (inr (inl refl)))

-- So is the first of two verdicts that is not 0, or 0 if both are.
first_final : (first second : ℕ) → IsFinal first → IsFinal second → IsFinal (verdict_of_two first second)
first_final first second h k = by (first == 0)
  where
    by : (b : Bool) → IsFinal (if b then second else first)
    by true = k
    by false = h

pub jobs_final : (jobs : Jobs) (told : Told) → IsFinal (verdict_of jobs told)
jobs_final (One w) told = verdict_final w told.ends
jobs_final (Two t) told = first_final (verdict t.first told.ends) (verdict t.second told.second_ends) (verdict_final t.first told.ends)
    (verdict_final t.second told.second_ends)
