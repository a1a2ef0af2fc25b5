-- Definitions beside those of `Jobs` that no public contract cites.
use Rattle.durable_job.specs.declared.jobs.Told.{Told}
use Rattle.twin_jobs.specs.declared.played.JobLeft.{JobLeft}

-- The report of two jobs, from what the run leaves of each.
abbrev pub told_both : JobLeft → JobLeft → Told
told_both first second = record { picks = first.picks; ends = first.ends; second_picks = second.picks; second_ends = second.ends }
