-- By how much requests of others raise the bound on the sends of an operation of a job.
use Rattle.cleanup.specs.SparingFits.{most_commits}
use Rattle.job_model.specs.JobScript.{Script}
use Rattle.std.specs.Prelude.{ℕ, ◌*◌, ◌+◌}

-- By how much a request of an attempt raises the bound on the sends of the driver's operation at most, with retries.
abbrev pub rise : Script → ℕ
rise w = (3 + most_commits) * (w.retries + 1)
