-- The result of a call, compared with what reading a line defines.
use Rattle.std.specs.Prelude.{Bool, Result, false, true}
use Rattle.trace_reader.specs.declared.fault.TraceFault.{TraceFault}
use Rattle.trace_reader.specs.declared.fault.TraceFault.TheVariants.{NoMemory}
use Rattle.text_and_lists.specs.Reading as reading

-- Memory ran out.
abbrev pub wanting : TraceFault → Bool
wanting NoMemory = true
wanting fault = false

-- The result of a call is what reading defines, unless memory ran out.
abbrev pub Gives : {A : Type 0} → Result A TraceFault → Result A TraceFault → Type 0
Gives result read = reading.Gives wanting result read
