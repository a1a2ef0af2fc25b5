use Rattle.journal_log.proofs.Imaged.{new, one, all, moments}
use Rattle.journal_log.proofs.contents.Goals as goal

pub returns : goal.returns
returns c = record { stay = record { new = new; one = one; all = all; moments = moments } }
