-- What a call returned, compared with what reading gives.
use Rattle.log_format.specs.declared.fault.LogFault.{LogFault}
use Rattle.log_format.specs.declared.fault.LogFault.TheVariants.{Bad, NoMemory}
use Rattle.std.specs.Prelude.{Bool, Result, false, true}
use Rattle.text_and_lists.specs.Reading as reading

-- True if the fault is that memory ran out.
abbrev pub wanting : LogFault → Bool
wanting (Bad place) = false
wanting NoMemory = true

-- The call's result is what reading gives, unless memory ran out.
abbrev pub Gives : {A : Type 0} → Result A LogFault → Result A LogFault → Type 0
Gives result read = reading.Gives wanting result read
