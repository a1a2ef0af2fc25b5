-- The lines of attempts and files.
use Rattle.text_and_lists.specs.Numbers.{number_in}
use Rattle.text_and_lists.specs.Parts.{parts_of}
use Rattle.text_and_lists.specs.Reading.{check, need, ◌>>=◌}
use Rattle.text_and_lists.specs.Shapes.{one, two, two_and_more}
use Rattle.job_model.specs.Attempts.{declares, last_files, with_file}
use Rattle.job_model.specs.Files.{has_path}
use Rattle.job_model.specs.Paths.{is_hidden, is_path}
use Rattle.job_model.specs.declared.attempts.AttemptName.{AttemptName}
use Rattle.job_script.specs.Content.{content_at}
use Rattle.job_script.specs.declared.draft.Draft.{Draft}
use Rattle.job_script.specs.declared.fault.ScriptFault.{ScriptFault}
use Rattle.job_script.specs.declared.fault.ScriptFault.TheVariants.{BadLine, BadNumber, BadPath, HiddenPath, RepeatedName, TooLarge}
use Rattle.s3_types.specs.declared.limits.TheConstants.{MOST_SCRIPT_BYTES}
use Rattle.std.specs.Option.{option_or}
use Rattle.std.specs.Prelude.{List, None, Ok, Option, Result, Some, if◌then◌else◌, length, nat_le, nat_lt, not, ℕ, [], ◌++◌, ◌+◌, ◌∷◌}

-- The name of an attempt, T.A.
unfoldable pub name_at : ℕ → List ℕ → Result AttemptName ScriptFault
name_at n word = do
  parts ← need (two (parts_of 46 word)) (BadLine n)
  task ← need (number_in 0 999 parts.0) (BadNumber n)
  attempt ← need (number_in 0 99 parts.1) (BadNumber n)
  Ok (record { task = task; attempt = attempt })

-- The line of an attempt whose task is not below the number of tasks, or none.
abbrev pub outside_at : ℕ → Option ℕ → AttemptName → Option ℕ
outside_at n None name = None
outside_at n (Some tasks) name = if nat_lt name.task tasks then None else Some n

-- The draft after `attempt T.A`.
unfoldable pub attempt_at : ℕ → Draft → List (List ℕ) → Result Draft ScriptFault
attempt_at n d values = do
  word ← need (one values) (BadLine n)
  name ← name_at n word
  new ← check (not (declares d.attempts name)) (RepeatedName n)
  few ← check (nat_lt (length d.attempts) 2000) TooLarge
  Ok (record d { attempts = d.attempts ++ (name, []) ∷ []; outside = option_or d.outside (outside_at n d.head.tasks name) })

-- The draft after `file PATH` and the file's bytes.
unfoldable pub file_at : ℕ → Draft → List (List ℕ) → Result Draft ScriptFault
file_at n d values = do
  words ← need (two_and_more values) (BadLine n)
  bytes ← content_at n words.1 words.2
  stated ← check (is_path words.0) (BadPath n)
  seen ← check (not (is_hidden words.0)) (HiddenPath n)
  new ← check (not (has_path (last_files d.attempts) words.0)) (RepeatedName n)
  few ← check (nat_lt d.files 20000) TooLarge
  short ← check (nat_le (d.bytes + length bytes) MOST_SCRIPT_BYTES) TooLarge
  Ok (record d { attempts = with_file d.attempts words.0 bytes; files = d.files + 1; bytes = d.bytes + length bytes })
