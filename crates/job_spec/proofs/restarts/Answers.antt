use Rattle.job_spec.proofs.Restarted.{idle_after, failed_after, stays_after, forgets_after, misses_after, attempts_after}
use Rattle.job_spec.proofs.restarts.Goals as goal

pub returns : goal.returns
returns c = record {
  anew = record {
    idle = idle_after;
    failed = failed_after;
    stays = stays_after;
    forgets = forgets_after;
    misses =
        misses_after;
    attempts = attempts_after;
  };
}
