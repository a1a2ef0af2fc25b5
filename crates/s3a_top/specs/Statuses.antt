-- The statuses before writing, and the texts that are written.
use Rattle.devices.specs.Devices.{Appends}
use Rattle.durable_job.specs.Jobs.{nothing_told}
use Rattle.durable_job.specs.declared.jobs.Told.{Told}
use Rattle.exit_status.specs.Statuses.{code}
use Rattle.exit_status.specs.declared.statuses.Status.{Status}
use Rattle.exit_status.specs.declared.statuses.Status.TheVariants.{WriteFault}
use Rattle.job_script.specs.Fault.{line_of, number_of}
use Rattle.job_script.specs.declared.fault.ScriptFault.{ScriptFault}
use Rattle.s3_types.specs.declared.journal.Entry.{Entry}
use Rattle.s3a_top.specs.Bytes.{WritesSome}
use Rattle.std.specs.Fmt.{decimal}
use Rattle.std.specs.Prelude.{List, Option, codes, ℕ, [], ◌++◌, ◌∷◌, ◌≡◌, ◌≢◌}
use Rattle.twin_script.specs.declared.fault.TwinFault.{TwinFault}
use Rattle.twin_script.specs.Fault as twins

-- Holds if this is the number of a status other than `WriteFault`, so it may be the status before writing.
abbrev pub IsDue : ℕ → Type 0
IsDue due = (s : Status) × ((s ≢ WriteFault) × (due ≡ code s))

-- The line that reports an invalid script: the fault's number and its line, 0 if it has none.
unfoldable pub script_fault_text : ScriptFault → List ℕ
script_fault_text e = codes "script fault " ++ (decimal (number_of e) ++ (codes " at line " ++ (decimal (line_of e) ++ 10 ∷ [])))

-- The line that reports two invalid scripts or their order: the fault's number and its line, 0 if it has none.
unfoldable pub twin_fault_text : TwinFault → List ℕ
twin_fault_text e = codes "twin fault " ++ (decimal (twins.number_of e) ++ (codes " at line " ++ (decimal (twins.line_of e) ++ 10 ∷ [])))

-- The whole text was appended, or, if the sink failed (status 4), some first bytes of it.
pub record Writes (status : ℕ) (before after : Option (List ℕ)) (text : List ℕ) : Type 0 where
  pub whole : status ≢ 4 → Appends before after text
  pub partly : status ≡ 4 → WritesSome before after text

-- Nothing was sent, and no jobs are reported.
pub record IsIdle (es : List Entry) (told : Told) : Type 0 where
  pub entries : es ≡ []
  pub nothing : told ≡ nothing_told
