-- How a call's result relates to the definition of reading a record.
use Rattle.pending_json.specs.declared.fault.RecordFault.{RecordFault}
use Rattle.pending_json.specs.declared.fault.RecordFault.TheVariants.{NoMemory}
use Rattle.std.specs.Prelude.{Bool, Result, false, true}
use Rattle.text_and_lists.specs.Reading as reading

-- True if memory ran out.
abbrev pub wanting : RecordFault → Bool
wanting NoMemory = true
wanting fault = false

-- Holds if a call's result is the result of reading, unless memory ran out.
abbrev pub Gives : {A : Type 0} → Result A RecordFault → Result A RecordFault → Type 0
Gives result read = reading.Gives wanting result read
