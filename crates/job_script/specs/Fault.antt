-- The numbers and lines of faults, and how a call's result relates to the definition of reading.
use Rattle.job_script.specs.declared.fault.ScriptFault.{ScriptFault}
use Rattle.job_script.specs.declared.fault.ScriptFault.TheVariants.{BadLine, BadNumber, BadPath, DestIsRoot, HiddenPath, MissingHead}
use Rattle.job_script.specs.declared.fault.ScriptFault.TheVariants.{NoMemory, NotUtf8, RepeatedName, TooLarge, UnknownActor, UnknownWord}
use Rattle.std.specs.Prelude.{Bool, Result, false, true, ℕ}
use Rattle.text_and_lists.specs.Reading as reading

-- The number of a fault.
abbrev pub number_of : ScriptFault → ℕ
number_of NotUtf8 = 1
number_of (BadLine n) = 2
number_of (UnknownWord n) = 3
number_of MissingHead = 4
number_of (RepeatedName n) = 5
number_of (BadPath n) = 6
number_of (HiddenPath n) = 7
number_of (UnknownActor n) = 8
number_of DestIsRoot = 9
number_of TooLarge = 10
number_of (BadNumber n) = 11
number_of NoMemory = 12

-- The line of a fault, or 0 if it has none.
abbrev pub line_of : ScriptFault → ℕ
line_of (BadLine n) = n
line_of (UnknownWord n) = n
line_of (RepeatedName n) = n
line_of (BadPath n) = n
line_of (HiddenPath n) = n
line_of (UnknownActor n) = n
line_of (BadNumber n) = n
line_of fault = 0

-- True if memory ran out.
abbrev pub wanting : ScriptFault → Bool
wanting NoMemory = true
wanting fault = false

-- Holds if a call returned the result of reading, unless memory ran out.
abbrev pub Gives : {A : Type 0} → Result A ScriptFault → Result A ScriptFault → Type 0
Gives result read = reading.Gives wanting result read
