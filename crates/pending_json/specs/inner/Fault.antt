-- Definitions beside those of `Fault` that no public contract cites.
use Rattle.pending_json.specs.Fault.{wanting}
use Rattle.pending_json.specs.declared.fault.RecordFault.{RecordFault}
use Rattle.std.specs.Prelude.{Result, ◌≡◌}
use Rattle.text_and_lists.specs.Reading as reading

-- Holds if it is this fault, unless memory ran out.
abbrev pub IsFault : RecordFault → RecordFault → Type 0
IsFault result fault = reading.Unless (wanting result) (result ≡ fault)

-- Holds if a call's result, seen by `view`, is the result of reading, unless memory ran out.
abbrev pub GivesBy : {A B : Type 0} → (A → B) → Result A RecordFault → Result B RecordFault → Type 0
GivesBy view result read = reading.GivesBy wanting view result read
