use Rattle.journal_log.proofs.images.entry_made.Goals as goal

pub returns-in-Some : goal.returns-in-Some
returns-in-Some c = rw c.in-Some.ensures.0 (c.made.ensures, tt)

pub returns-in-None : goal.returns-in-None
returns-in-None c = rw c.in-None.ensures tt
