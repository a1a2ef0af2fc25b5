use Rattle.audit_laws.proofs.Split.{split}
use Rattle.audit_laws.proofs.laws.split_laws.Goals as goal

pub returns : goal.returns
returns c = split
