-- In every run at a shared destination the driver's operations end as promised.
use Rattle.twin_safety.specs.Shared.{RunsAreKeptShared}
use Rattle.twin_safety.proofs.Ends.{commits_kept, checks_kept}
use Rattle.twin_safety.proofs.Cleans.{cleans_kept}

pub kept_shared : RunsAreKeptShared
kept_shared g opening x j is_opening run idle shared = record {
  commits = commits_kept g shared opening j is_opening x run idle;
  checks = checks_kept g shared opening j is_opening x run idle;
  cleans = cleans_kept g shared opening j is_opening x run idle;
}
