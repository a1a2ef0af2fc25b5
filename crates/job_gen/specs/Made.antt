-- The script that is made from a seed, the number of tasks, and the number of files of each.
use Rattle.job_model.specs.Attempts.{Declared, Who, actor_of}
use Rattle.job_model.specs.Files.{File}
use Rattle.job_model.specs.JobScript.{Script, plain_script}
use Rattle.job_model.specs.declared.events.Event.{Event}
use Rattle.job_model.specs.declared.events.Event.TheVariants.{Do, Kill, Mix, Start}
use Rattle.job_model.specs.declared.events.Op.TheVariants.{Clean, Commit, Setup, Write}
use Rattle.job_spec.specs.Turns.{draw}
use Rattle.path_keys.specs.Paths.{Path}
use Rattle.s3_types.specs.declared.request.Actor.{Actor}
use Rattle.s3_types.specs.declared.request.Actor.TheVariants.{Driver}
use Rattle.s3_types.specs.declared.request.Committer.TheVariants.{Magic}
use Rattle.s3_types.specs.declared.request.Mode.TheVariants.{Append}
use Rattle.std.specs.List.{flat_map, range_with_len}
use Rattle.std.specs.Prelude.{Bool, List, codes, filter, if◌then◌else◌, map, replicate, ℕ, [], ◌%◌, ◌*◌, ◌++◌, ◌+◌, ◌/◌, ◌==◌, ◌^◌, ◌∷◌}

-- The i-th number of a seed's sequence, from 1 on.
abbrev pub number : ℕ → ℕ → ℕ
number seed i = draw seed i / 65536

-- The numbers below n, rising.
abbrev pub below : ℕ → List ℕ
below n = range_with_len 0 n

-- ---- files

-- A number in two digits.
abbrev pub two_digits : ℕ → List ℕ
two_digits n = (48 + n / 10) ∷ (48 + n % 10) ∷ []

-- A number in three digits.
abbrev pub three_digits : ℕ → List ℕ
three_digits n = (48 + n / 100) ∷ two_digits (n % 100)

-- The path part-TTT-JJ.
abbrev pub part_path : (task file : ℕ) → List ℕ
part_path t j = codes "part-" ++ (three_digits t ++ (codes "-" ++ two_digits j))

-- The contents of a file, by the two numbers after the i-th: the first gives the length, the second the letter that is repeated.
abbrev pub content : (seed i : ℕ) → List ℕ
content seed i = replicate (number seed (i + 1) % 4096) (97 + number seed (i + 2) % 26)

-- File j of task t. Each of the files before it took two numbers.
abbrev pub part_file : (seed files task file : ℕ) → File
part_file seed files t j = (part_path t j, content seed (2 * (t * files + j)))

-- The files of a task.
unfoldable pub part_files : (seed files task : ℕ) → List File
part_files seed files t = map (part_file seed files t) (below files)

-- ---- attempts

-- The name of an attempt.
abbrev pub attempt_of : (task attempt : ℕ) → Who
attempt_of t a = record { task = t; attempt = a }

-- True if the task has a second attempt: every fifth one.
abbrev pub is_twice : ℕ → Bool
is_twice t = t % 5 == 4

-- The attempts of a task, all with the same files.
abbrev pub attempts_of : List File → ℕ → List Declared
attempts_of files t = if is_twice t then (attempt_of t 0, files) ∷ (attempt_of t 1, files) ∷ [] else (attempt_of t 0, files) ∷ []

-- The attempts of all tasks.
unfoldable pub made_attempts : (seed tasks files : ℕ) → List Declared
made_attempts seed tasks files = flat_map (λ t. attempts_of (part_files seed files t) t) (below tasks)

-- ---- events

-- The event that starts the write of a task's first attempt.
abbrev pub start_write : ℕ → Event
start_write t = Start (actor_of (attempt_of t 0)) Write

-- The events that kill the first attempt of a task and run the write of the second one.
abbrev pub second_writes : ℕ → List Event
second_writes t = Kill (actor_of (attempt_of t 0)) ∷ Do (actor_of (attempt_of t 1)) Write ∷ []

-- The attempt of a task that commits.
abbrev pub committer_of : ℕ → Actor
committer_of t = actor_of (attempt_of t (if is_twice t then 1 else 0))

-- The event that starts the commit of a task's last attempt.
abbrev pub start_commit : ℕ → Event
start_commit t = Start (committer_of t) Commit

-- The event that mixes all busy actors by the seed.
abbrev pub mix_by : ℕ → Event
mix_by seed = Mix (seed % 2 ^ 31)

-- All events.
unfoldable pub made_events : (seed tasks : ℕ) → List Event
made_events seed tasks =
    (Do Driver Setup ∷ [])
    ++ (map start_write (below tasks) ++ mix_by seed ∷ [])
    ++ flat_map second_writes (filter is_twice (below tasks))
    ++ (map start_commit (below tasks) ++ mix_by seed ∷ [])
    ++ (Do Driver Commit ∷ Do Driver Clean ∷ [])

-- ---- the script

-- The destination of the job.
abbrev pub made_dest : Path
made_dest = record { bucket = codes "lake"; key = codes "gen" }

-- The script. Its other head lines have their defaults.
unfoldable pub made_script : (seed tasks files : ℕ) → Script
made_script seed tasks files = record (plain_script (codes "gen") made_dest Magic Append tasks)
    { attempts = made_attempts seed tasks files; events = made_events seed tasks }
