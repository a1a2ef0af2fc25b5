-- The numbers and lines of faults, and how a call's result relates to the definition of reading.
use Rattle.std.specs.Prelude.{Bool, Result, false, true, ℕ}
use Rattle.twin_script.specs.declared.fault.TwinFault.{TwinFault}
use Rattle.twin_script.specs.declared.fault.TwinFault.TheVariants.{BadOrder, First, NoMemory, NotThree, OtherDest, ReplaceMode, SameJob}
use Rattle.twin_script.specs.declared.fault.TwinFault.TheVariants.{Second, SecondLoss, TooLarge}
use Rattle.text_and_lists.specs.Reading as reading
use Rattle.job_script.specs.Fault as script
use Rattle.job_script.specs.declared.fault.ScriptFault.TheVariants as script_fault

-- The number of a fault.
abbrev pub number_of : TwinFault → ℕ
number_of NotThree = 1
number_of (First fault) = 2
number_of (Second fault) = 3
number_of SameJob = 4
number_of OtherDest = 5
number_of ReplaceMode = 6
number_of SecondLoss = 7
number_of (BadOrder n) = 8
number_of TooLarge = 9
number_of NoMemory = 10

-- The line of a fault in its part, or 0 if it has none.
abbrev pub line_of : TwinFault → ℕ
line_of (First fault) = script.line_of fault
line_of (Second fault) = script.line_of fault
line_of (BadOrder n) = n
line_of fault = 0

-- True if memory ran out.
abbrev pub wanting : TwinFault → Bool
wanting NoMemory = true
wanting fault = false

-- True unless the fault reports NoMemory as that of a part.
abbrev pub is_told : TwinFault → Bool
is_told (First script_fault.NoMemory) = false
is_told (Second script_fault.NoMemory) = false
is_told fault = true

-- Holds if a call returned the result of reading, unless memory ran out.
abbrev pub Gives : {A : Type 0} → Result A TwinFault → Result A TwinFault → Type 0
Gives result read = reading.Gives wanting result read
