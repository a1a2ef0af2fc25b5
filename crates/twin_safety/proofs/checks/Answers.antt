use Rattle.twin_safety.proofs.Checking.{checks_end}
use Rattle.twin_safety.proofs.checks.Goals as goal

pub returns : goal.returns
returns c = record { end = checks_end }
