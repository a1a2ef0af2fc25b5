-- The outcome of reading or making the jobs.
use Rattle.std.specs.Prelude.{◌≡◌, ◌≢◌, ℕ, ◌<◌, Bool, true, false, List, Option, Result, Ok, Err}
use Rattle.job_script.specs.Script.{script_of}
use Rattle.job_script.specs.declared.fault.ScriptFault.TheVariants as faults
use Rattle.twin_script.specs.Twins.{twins_of}
use Rattle.twin_script.specs.declared.fault.TwinFault.TheVariants as twin_faults
use Rattle.durable_job.specs.declared.jobs.Jobs.{Jobs}
use Rattle.durable_job.specs.declared.jobs.Jobs.TheVariants.{One, Two}
use Rattle.s3a_words.specs.declared.command.Command.{Command}
use Rattle.s3a_words.specs.declared.command.Command.TheVariants.{Job, Twins}
use Rattle.s3a_top.specs.Bytes.{IsTaken, TakesPart}
use Rattle.s3a_top.specs.Openings.{reads_jobs}
use Rattle.s3a_top.specs.inner.Openings.{TakesIfRead}
use Rattle.s3a_top.specs.Jobs.{IsFaultOf}
use Rattle.s3a_top.specs.declared.stop.Stop.{Stop}
use Rattle.s3a_top.specs.declared.stop.Stop.TheVariants.{ReadFault, Script as BadScript, Twins as BadTwins, NoMemory}

-- The command that reads one job from the input, or two.
abbrev pub reader : Bool → Command
reader false = Job
reader true = Twins

-- Holds if the bytes read as these jobs: one, or two.
abbrev pub AreJobsIn : Bool → List ℕ → Jobs → Type 0
AreJobsIn false bytes (One w) = script_of bytes ≡ Ok w
AreJobsIn true bytes (Two t) = twins_of bytes ≡ Ok t
AreJobsIn _ bytes jobs = ⊥

-- The cause of each stop before there are jobs.
abbrev pub IsReadStop : Stop → Command → (left rest : Option (List ℕ)) → Type 0
IsReadStop ReadFault command left rest = (reads_jobs command ≡ true) × TakesPart left rest
IsReadStop (BadScript e) command left rest = (command ≡ Job) × (IsFaultOf script_of left e × ((e ≢ faults.NoMemory) × IsTaken left rest))
IsReadStop (BadTwins e) command left rest = (command ≡ Twins)
    × (IsFaultOf twins_of left e × ((e ≢ twin_faults.NoMemory) × IsTaken left rest))
IsReadStop NoMemory command left rest = TakesIfRead command left rest
IsReadStop _ command left rest = ⊥

-- Why the bytes that were read give no jobs.
abbrev pub IsNone : Stop → Bool → List ℕ → Type 0
IsNone (BadScript e) both bytes = (both ≡ false) × ((script_of bytes ≡ Err e) × (e ≢ faults.NoMemory))
IsNone (BadTwins e) both bytes = (both ≡ true) × ((twins_of bytes ≡ Err e) × (e ≢ twin_faults.NoMemory))
IsNone NoMemory both bytes = Unit {0}
IsNone _ both bytes = ⊥

-- Holds if the count of faults rose after the input failed, and is unchanged otherwise.
abbrev pub CountsReads : {A : Type 0} → Result A Stop → ℕ → ℕ → Type 0
CountsReads (Err ReadFault) before after = before < after
CountsReads _ before after = after ≡ before
