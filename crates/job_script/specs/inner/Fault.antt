-- Definitions beside those of `Fault` that no public contract cites.
use Rattle.job_script.specs.Fault.{wanting}
use Rattle.job_script.specs.declared.fault.ScriptFault.{ScriptFault}
use Rattle.std.specs.Prelude.{Result, ⊤}
use Rattle.text_and_lists.specs.inner.Reading as reading

-- Holds if a call changed its argument to the result of reading, unless memory ran out.
abbrev pub Makes : {A : Type 0} → Result ⊤ ScriptFault → A → Result A ScriptFault → Type 0
Makes result new read = reading.Makes wanting result new read
