use Rattle.twin_safety.proofs.Kept.{kept_shared}
use Rattle.twin_safety.proofs.shared.Goals as goal

pub returns : goal.returns
returns c = record { kept = kept_shared }
