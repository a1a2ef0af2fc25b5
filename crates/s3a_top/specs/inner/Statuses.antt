-- Definitions beside those of `Statuses` that no public contract cites.
use Rattle.exit_status.specs.declared.statuses.Status.{Status}
use Rattle.exit_status.specs.declared.statuses.Status.TheVariants.{BadScript, ReadFault, Usage, WriteFault}

-- Holds for the statuses that work which was done may have: no faulty words, no failed input or output, no bad script.
abbrev pub IsWorked : Status → Type 0
IsWorked Usage = ⊥
IsWorked ReadFault = ⊥
IsWorked WriteFault = ⊥
IsWorked BadScript = ⊥
IsWorked _ = Unit {0}
