-- Definitions beside those of `Fault` that no public contract cites.
use Rattle.log_format.specs.Fault.{wanting}
use Rattle.log_format.specs.declared.fault.LogFault.{LogFault}
use Rattle.std.specs.Prelude.{Result}
use Rattle.text_and_lists.specs.Reading as reading

-- The call's result, seen by `view`, is what reading gives, unless memory ran out.
abbrev pub GivesBy : {A B : Type 0} → (A → B) → Result A LogFault → Result B LogFault → Type 0
GivesBy view result read = reading.GivesBy wanting view result read
