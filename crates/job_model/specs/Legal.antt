-- The bounds of a script.
use Rattle.text_and_lists.specs.Words.{IsBare}
use Rattle.job_model.specs.Attempts.{Declared, declares, is_known}
use Rattle.job_model.specs.Files.{File, has_path}
use Rattle.job_model.specs.JobScript.{Script}
use Rattle.job_model.specs.Paths.{is_dest_key, is_hidden, is_path}
use Rattle.job_model.specs.declared.events.Event.{Event}
use Rattle.job_model.specs.declared.events.Op.{Op}
use Rattle.path_keys.specs.Paths.{Path, is_key}
use Rattle.s3_types.specs.Fates.{FateMap, is_answer}
use Rattle.s3_types.specs.Names.{is_bucket, is_job_id}
use Rattle.s3_types.specs.declared.fates.Fate.{Fate}
use Rattle.s3_types.specs.declared.limits.TheConstants.{MOST_SCRIPT_BYTES}
use Rattle.s3_types.specs.declared.request.Actor.{Actor}
use Rattle.s3_types.specs.declared.request.Committer.{Committer}
use Rattle.s3_types.specs.declared.request.Mode.{Mode}
use Rattle.std.specs.List.{list_all}
use Rattle.std.specs.Prelude.{Bool, IfSome, List, Some, false, length, nat_lt, true, ℕ, [], ◌++◌, ◌+◌, ◌<◌, ◌^◌, ◌∷◌, ◌≡◌, ◌≤◌}
use Rattle.std.specs.Str.{is_utf8}
use Rattle.std.specs.FinMap as map
use Rattle.s3_types.specs.declared.request.Actor.TheVariants as actor
use Rattle.s3_types.specs.declared.request.Committer.TheVariants as committer
use Rattle.s3_types.specs.declared.request.Mode.TheVariants as mode
use Rattle.job_model.specs.declared.events.Op.TheVariants as op
use Rattle.job_model.specs.declared.events.Event.TheVariants as event

-- Holds if this may be a word of a script: UTF-8 without blank and LF.
abbrev pub IsScriptWord : List ℕ → Type 0
IsScriptWord w = (is_utf8 w ≡ true) × IsBare w

-- Holds if this may be a destination: a bucket, and a key that is allowed for a destination and is one word.
pub record IsDest (dest : Path) : Type 0 where
  pub bucket : is_bucket dest.bucket ≡ true
  pub key : is_key dest.key ≡ true
  pub below : is_dest_key dest.key ≡ true
  pub word : IsScriptWord dest.key

-- With the committer `magic` the mode is `append`, and names are not made unique.
abbrev pub FitsMagic : Committer → Mode → Bool → Type 0
FitsMagic committer.Magic m unique = (m ≡ mode.Append) × (unique ≡ false)
FitsMagic _ m unique = Unit {0}

-- Only sends 1 to 1,000,000,000 have a fate, and none of these fates is an answer.
abbrev pub AreFates : FateMap → Type 0
AreFates fates = (n : ℕ) (fate : Fate) → map.get fates n ≡ Some fate → (1 ≤ n) × (n ≤ 1000000000) × (is_answer fate ≡ false)

-- True if each number is below 256.
abbrev pub are_bytes : List ℕ → Bool
are_bytes bytes = list_all (λ b. nat_lt b 256) bytes

-- Holds if a script may give this path to a file: it is one word, and none of its elements is hidden.
pub record IsGiven (path : List ℕ) : Type 0 where
  pub stated : is_path path ≡ true
  pub shown : is_hidden path ≡ false
  pub word : IsScriptWord path

-- Holds if the file has an allowed path, and its contents are bytes.
pub record IsFile (f : File) : Type 0 where
  pub path : IsGiven f.0
  pub bytes : are_bytes f.1 ≡ true

-- Holds if each file is allowed and each path occurs once, also among the files `before`.
abbrev pub AreFiles : List File → List File → Type 0
AreFiles before [] = Unit {0}
AreFiles before (f ∷ fs) = IsFile f × (has_path before f.0 ≡ false) × AreFiles (before ++ f ∷ []) fs

-- Holds if each name is in its range and occurs once, also among the attempts `before`, and each attempt's files are allowed.
abbrev pub AreAttempts : ℕ → List Declared → List Declared → Type 0
AreAttempts tasks before [] = Unit {0}
AreAttempts tasks before (a ∷ more) = (a.0.task < tasks) × (a.0.attempt ≤ 99) × (declares before a.0 ≡ false) × AreFiles [] a.1
    × AreAttempts tasks (before ++ a ∷ []) more

-- The number of files of these attempts.
abbrev pub files_in : List Declared → ℕ
files_in [] = 0
files_in (a ∷ more) = length a.1 + files_in more

-- The number of bytes of these files.
abbrev pub bytes_of : List File → ℕ
bytes_of [] = 0
bytes_of (f ∷ fs) = length f.1 + bytes_of fs

-- The number of bytes of all files of these attempts.
abbrev pub bytes_in : List Declared → ℕ
bytes_in [] = 0
bytes_in (a ∷ more) = bytes_of a.1 + bytes_in more

-- Holds if the actor has this operation: the driver has all but `write`, an attempt has `write`, `commit` and `abort`.
abbrev pub HasOp : Actor → Op → Type 0
HasOp actor.Driver op.Setup = Unit {0}
HasOp actor.Driver op.Write = ⊥
HasOp actor.Driver op.Commit = Unit {0}
HasOp actor.Driver op.Abort = Unit {0}
HasOp actor.Driver op.Clean = Unit {0}
HasOp (actor.Attempt task attempt) op.Setup = ⊥
HasOp (actor.Attempt task attempt) op.Write = Unit {0}
HasOp (actor.Attempt task attempt) op.Commit = Unit {0}
HasOp (actor.Attempt task attempt) op.Abort = Unit {0}
HasOp (actor.Attempt task attempt) op.Clean = ⊥
HasOp actor.Shell op = ⊥

-- Holds if the actor is a declared attempt.
abbrev pub IsRecovered : List Declared → Actor → Type 0
IsRecovered attempts (actor.Attempt task attempt) = declares attempts (record { task = task; attempt = attempt }) ≡ true
IsRecovered attempts _ = ⊥

-- Holds if the actor of the event is the driver or a declared attempt, and has the operation, and the event's numbers are in their ranges.
abbrev pub IsEvent : List Declared → Event → Type 0
IsEvent attempts (event.Do actor op) = (is_known attempts actor ≡ true) × HasOp actor op
IsEvent attempts (event.Start actor op) = (is_known attempts actor ≡ true) × HasOp actor op
IsEvent attempts (event.Step actor count) = (is_known attempts actor ≡ true) × (1 ≤ count) × (count ≤ 1000000)
IsEvent attempts (event.Run actor) = is_known attempts actor ≡ true
IsEvent attempts (event.Kill actor) = is_known attempts actor ≡ true
IsEvent attempts (event.Mix seed) = seed ≤ 2147483647
IsEvent attempts event.Restart = Unit {0}
IsEvent attempts (event.Recover actor) = IsRecovered attempts actor

-- Holds if all events are allowed.
abbrev pub AreEvents : List Declared → List Event → Type 0
AreEvents attempts [] = Unit {0}
AreEvents attempts (e ∷ es) = IsEvent attempts e × AreEvents attempts es

-- Holds if each part of the script keeps its bounds.
pub record IsLegal (s : Script) : Type 0 where
  pub job : is_job_id s.job ≡ true
  pub dest : IsDest s.dest
  pub magic : FitsMagic s.committer s.mode s.unique
  pub tasks : s.tasks ≤ 1000
  pub retries : s.retries ≤ 9
  pub block : s.block ≤ MOST_SCRIPT_BYTES
  pub one_lane : 1 ≤ s.lanes
  pub few_lanes : s.lanes ≤ 8
  pub stamp : IfSome s.stamp (λ n. n < 10 ^ 18)
  pub fates : AreFates s.fates
  pub attempts : AreAttempts s.tasks [] s.attempts
  pub few_attempts : length s.attempts ≤ 2000
  pub few_files : files_in s.attempts ≤ 20000
  pub few_bytes : bytes_in s.attempts ≤ MOST_SCRIPT_BYTES
  pub events : AreEvents s.attempts s.events
  pub few_events : length s.events ≤ 100000
