-- Definitions beside those of `Faults` that no public contract cites.
use Rattle.std.specs.Prelude.{Result}
use Rattle.trace_reader.specs.Faults.{wanting}
use Rattle.trace_reader.specs.declared.fault.TraceFault.{TraceFault}
use Rattle.text_and_lists.specs.Reading as reading

-- The result of a call, seen by `view`, is what reading defines, unless memory ran out.
abbrev pub GivesBy : {A B : Type 0} → (A → B) → Result A TraceFault → Result B TraceFault → Type 0
GivesBy view result read = reading.GivesBy wanting view result read
