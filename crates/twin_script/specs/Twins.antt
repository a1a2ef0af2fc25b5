-- The two scripts and the order that bytes mean.
use Rattle.text_and_lists.specs.Reading.{check, need, ◌>>=◌}
use Rattle.job_model.specs.JobScript.{Script}
use Rattle.job_script.specs.Script.{script_of}
use Rattle.job_script.specs.declared.fault.ScriptFault.{ScriptFault}
use Rattle.path_keys.specs.Paths.{Path}
use Rattle.s3_types.specs.Fates.{FateMap}
use Rattle.s3_types.specs.declared.limits.TheConstants.{MOST_SCRIPT_BYTES}
use Rattle.std.specs.Prelude.{Bool, Err, List, Ok, Result, bytes_eq, length, nat_le, not, ℕ, ⊤, ◌&&◌, ◌==◌, ◌||◌}
use Rattle.twin_script.specs.Cutting.{three_parts}
use Rattle.twin_script.specs.Order.{order_of}
use Rattle.twin_script.specs.TwinScripts.{Twins, is_replace}
use Rattle.twin_script.specs.declared.fault.TwinFault.{TwinFault}
use Rattle.twin_script.specs.declared.turns.TwinTurn.{TwinTurn}
use Rattle.std.specs.FinMap as map
use Rattle.twin_script.specs.declared.fault.TwinFault.TheVariants as fault

-- The script of a part, or the part's fault.
abbrev pub within : (ScriptFault → TwinFault) → Result Script ScriptFault → Result Script TwinFault
within part (Ok script) = Ok script
within part (Err fault) = Err (part fault)

-- True if two destinations have the same bucket and key.
abbrev pub is_same_dest : Path → Path → Bool
is_same_dest p q = bytes_eq p.bucket q.bucket && bytes_eq p.key q.key

-- True if some send has a fate.
abbrev pub names_fate : FateMap → Bool
names_fate fates = not (map.len fates == 0)

-- The first fault of two scripts, by these findings.
abbrev pub told : Bool → Bool → Bool → Bool → Result ⊤ TwinFault
told same_job same_dest replaces loses = do
  ids ← check (not same_job) fault.SameJob
  dest ← check same_dest fault.OtherDest
  keep ← check (not replaces) fault.ReplaceMode
  check (not loses) fault.SecondLoss

-- The first fault of two scripts that may not run at one destination.
unfoldable pub fit : Script → Script → Result ⊤ TwinFault
fit first second = told (bytes_eq first.job second.job) (is_same_dest first.dest second.dest)
    (is_replace first.mode || is_replace second.mode) (names_fate second.fates)

-- The turns of an order of two scripts, if these may run at one destination.
unfoldable pub turns_of : Script → Script → List ℕ → Result (List TwinTurn) TwinFault
turns_of first second order = do
  twins ← fit first second
  order_of (length first.events) (length second.events) order

-- Two scripts and an order, if the scripts may run at one destination.
unfoldable pub paired : Script → Script → List ℕ → Result Twins TwinFault
paired first second order = do
  turns ← turns_of first second order
  Ok (record { first = first; second = second; order = turns })

-- The result of the first script, the second part and the third.
unfoldable pub with_second : Script → List ℕ → List ℕ → Result Twins TwinFault
with_second first part order = within fault.Second (script_of part) >>= λ second. paired first second order

-- The result of the three parts.
unfoldable pub with_first : List ℕ → List ℕ → List ℕ → Result Twins TwinFault
with_first part behind order = within fault.First (script_of part) >>= λ first. with_second first behind order

-- The two scripts and the order that the bytes mean, or the first fault.
unfoldable pub twins_of : List ℕ → Result Twins TwinFault
twins_of bytes = do
  small ← check (nat_le (length bytes) MOST_SCRIPT_BYTES) fault.TooLarge
  parts ← need (three_parts bytes) fault.NotThree
  with_first parts.0 parts.1 parts.2
