use Rattle.journal_log.proofs.Journals.{store_alone, others_leave, folded, changes_append, cut}
use Rattle.journal_log.proofs.changes.Goals as goal

pub returns : goal.returns
returns c = record { follow = record { store = store_alone; others = others_leave; folded = folded; joined = changes_append; cut = cut } }
