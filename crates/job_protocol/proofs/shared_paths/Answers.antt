use Rattle.job_protocol.proofs.Shared.{shared_found, shared_none}
use Rattle.job_protocol.proofs.shared_paths.Goals as goal

pub returns : goal.returns
returns c = record { shared = record { found = shared_found; none = shared_none } }
