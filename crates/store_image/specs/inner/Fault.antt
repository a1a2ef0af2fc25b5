-- Definitions beside those of `Fault` that no public contract cites.
use Rattle.std.specs.Prelude.{Result}
use Rattle.store_image.specs.Fault.{wanting}
use Rattle.store_image.specs.declared.fault.ImageFault.{ImageFault}
use Rattle.text_and_lists.specs.Reading as reading

-- The call's result, seen by `view`, is what reading gives, unless memory ran out.
abbrev pub GivesBy : {A B : Type 0} → (A → B) → Result A ImageFault → Result B ImageFault → Type 0
GivesBy view result read = reading.GivesBy wanting view result read
