-- A commit after a send that got no answer.
use Rattle.job_protocol.specs.AtWork.{Committing, read_script, sets_in}
use Rattle.job_protocol.specs.JobCommits.{commit_misses}
use Rattle.std.specs.Prelude.{Bool}

abbrev pub missed : Committing → Bool → Committing
missed m lost = record {
  plan = m.plan;
  picked = m.picked;
  operation = commit_misses (read_script m.plan (sets_in m.operation)) m.operation
      lost;
}
