use Rattle.job_invariant.proofs.OwnRequests.{setup_changes, attempt_changes, commit_changes, clean_changes}
use Rattle.job_invariant.proofs.requests.Goals as goal

pub returns : goal.returns
returns c = record { own = record { setup = setup_changes; attempts = attempt_changes; commit = commit_changes; clean = clean_changes } }
