-- The numbers and places of faults, and what a call returned, compared with what reading gives.
use Rattle.std.specs.Prelude.{Bool, Result, false, true, ℕ}
use Rattle.store_image.specs.declared.fault.ImageFault.{ImageFault}
use Rattle.store_image.specs.declared.fault.ImageFault.TheVariants.{BadHead, BadName, BadOrder, CounterTooHigh, NoMemory, Short, Trailing}
use Rattle.text_and_lists.specs.Reading as reading

-- The number of a fault.
abbrev pub number_of : ImageFault → ℕ
number_of BadHead = 1
number_of (Short place) = 2
number_of (BadOrder place) = 3
number_of (BadName place) = 4
number_of CounterTooHigh = 5
number_of (Trailing place) = 6
number_of NoMemory = 7

-- The place of a fault, or 0 if it has none.
abbrev pub place_in : ImageFault → ℕ
place_in (Short place) = place
place_in (BadOrder place) = place
place_in (BadName place) = place
place_in (Trailing place) = place
place_in _ = 0

-- True if the fault is that memory ran out.
abbrev pub wanting : ImageFault → Bool
wanting NoMemory = true
wanting fault = false

-- The call's result is what reading gives, unless memory ran out.
abbrev pub Gives : {A : Type 0} → Result A ImageFault → Result A ImageFault → Type 0
Gives result read = reading.Gives wanting result read
