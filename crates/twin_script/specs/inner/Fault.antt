-- Definitions beside those of `Fault` that no public contract cites.
use Rattle.job_script.specs.declared.fault.ScriptFault.{ScriptFault}
use Rattle.std.specs.Prelude.{Result, ⊤}
use Rattle.twin_script.specs.Fault.{wanting}
use Rattle.twin_script.specs.declared.fault.TwinFault.{TwinFault}
use Rattle.twin_script.specs.declared.fault.TwinFault.TheVariants.{First, NoMemory, Second}
use Rattle.text_and_lists.specs.inner.Reading as reading
use Rattle.job_script.specs.declared.fault.ScriptFault.TheVariants as script_fault

-- The fault of the first part. NoMemory is not the fault of a part.
abbrev pub first_fault : ScriptFault → TwinFault
first_fault script_fault.NoMemory = NoMemory
first_fault fault = First fault

-- The fault of the second part. NoMemory is not the fault of a part.
abbrev pub second_fault : ScriptFault → TwinFault
second_fault script_fault.NoMemory = NoMemory
second_fault fault = Second fault

-- Holds if a call changed its argument to the result of reading, unless memory ran out.
abbrev pub Makes : {A : Type 0} → Result ⊤ TwinFault → A → Result A TwinFault → Type 0
Makes result new read = reading.Makes wanting result new read
