use Rattle.journal_log.specs.Changes.{changes}
use Rattle.journal_log.specs.Made.{IsMade}
use Rattle.std.proofs.Common.{take}
use Rattle.std.specs.List.{AllByRecursion}
use Rattle.journal_log.proofs.images.keeps_images.Given as goal

-- The changes of the entries so far.
abbrev pub invariant-loop-entry : goal.invariant-loop-entry
invariant-loop-entry l = AllByRecursion IsMade (changes (take l.entry-index l.entries))
