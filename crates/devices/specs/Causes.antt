-- What a load says of a bad log.
use Rattle.std.specs.Prelude.{ℕ, Result, Ok, Err}
use Rattle.devices.specs.declared.kept.LoadFault.{LoadFault}
use Rattle.devices.specs.declared.kept.LoadFault.TheVariants.{Failed, TooLarge, BadLog, NoMemory}

-- If the load returned BadLog, P holds of the place that it names.
abbrev pub IfBadLog : {A : Type 0} → Result A LoadFault → (ℕ → Type 0) → Type 0
IfBadLog (Ok x) P = Unit {0}
IfBadLog (Err Failed) P = Unit {0}
IfBadLog (Err TooLarge) P = Unit {0}
IfBadLog (Err (BadLog place)) P = P place
IfBadLog (Err NoMemory) P = Unit {0}
