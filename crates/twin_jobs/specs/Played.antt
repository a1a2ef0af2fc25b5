-- What a run of two jobs leaves.
use Rattle.twin_jobs.specs.Worlds.{JobRun}
use Rattle.twin_jobs.specs.declared.played.JobLeft.{JobLeft}

-- What callers saw last of a job, made from what its run leaves.
abbrev pub told_of : JobLeft → JobRun
told_of j = record { script = j.script; picks = j.picks; ends = j.ends }
