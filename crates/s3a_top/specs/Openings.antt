-- What a run begins with, given what the shelf held and what was left in the input.
use Rattle.devices.specs.Logged.{Stored}
use Rattle.durable_job.specs.Jobs.{dest_of}
use Rattle.durable_job.specs.declared.jobs.Jobs.{Jobs}
use Rattle.durable_job.specs.declared.jobs.Jobs.TheVariants.{One, Two}
use Rattle.durable_store.specs.Stores.{found}
use Rattle.durable_store.specs.declared.shelf_state.ShelfState.{ShelfState}
use Rattle.durable_store.specs.declared.shelf_state.ShelfState.TheVariants.{Faulty, Nothing, Store}
use Rattle.job_gen.specs.Made.{made_script}
use Rattle.job_script.specs.Script.{script_of}
use Rattle.s3_types.specs.Answer.{apply_store}
use Rattle.s3_types.specs.Store.{Content, new_content}
use Rattle.s3_types.specs.declared.limits.TheConstants.{MOST_MINIMUM}
use Rattle.s3_types.specs.declared.request.Request.TheVariants.{MakeBucket}
use Rattle.s3a_words.specs.declared.command.Command.{Command}
use Rattle.s3a_words.specs.declared.command.Command.TheVariants.{Gen, Job, Twins}
use Rattle.std.specs.Prelude.{Bool, List, None, Ok, Option, Result, Some, false, true, ℕ, [], ◌≡◌, ◌⊎◌}
use Rattle.twin_script.specs.Twins.{twins_of}

-- Holds if reading the whole input gives this value, and nothing is left in it. For an input whose bytes are not known it only says that
-- they stay unknown.
abbrev pub IsAllRead : {A E : Type 0} → (List ℕ → Result A E) → (left rest : Option (List ℕ)) → A → Type 0
IsAllRead read None rest x = rest ≡ None
IsAllRead read (Some bytes) rest x = (read bytes ≡ Ok x) × (rest ≡ Some [])

-- The jobs of a command: for `job` the input's script, for `twins` the input's two scripts with their order, and for `gen` the script that
-- its numbers make, with nothing taken from the input.
abbrev pub AreJobsOf : Command → (left rest : Option (List ℕ)) → Jobs → Type 0
AreJobsOf Job left rest (One w) = IsAllRead script_of left rest w
AreJobsOf Twins left rest (Two t) = IsAllRead twins_of left rest t
AreJobsOf (Gen seed tasks files) left rest (One w) = (w ≡ made_script seed tasks files) × (rest ≡ left)
AreJobsOf _ left rest jobs = ⊥

-- True for the commands that read their jobs from the input.
abbrev pub reads_jobs : Command → Bool
reads_jobs Job = true
reads_jobs Twins = true
reads_jobs _ = false

-- Holds if nothing was taken from the input, or the command's jobs were read.
abbrev pub TakesJobs : Command → (left rest : Option (List ℕ)) → Type 0
TakesJobs command left rest = (rest ≡ left) ⊎ ((jobs : Jobs) × AreJobsOf command left rest jobs)

-- The store with which jobs open: the one that is held, or a new one with their destination's bucket.
abbrev pub opening_in : ShelfState → Jobs → Option Content
opening_in Nothing jobs = Some (apply_store (new_content MOST_MINIMUM) (MakeBucket (dest_of jobs).bucket))
opening_in (Store c) jobs = Some c
opening_in (Faulty number place) jobs = None

-- Holds if jobs open with this store. Says nothing if what the shelf holds is not known.
abbrev pub Opens : Option Stored → Jobs → Content → Type 0
Opens None jobs c = Unit {0}
Opens (Some s) jobs c = opening_in (found s) jobs ≡ Some c

-- Holds if what was found is a store or nothing.
abbrev pub is_sound : ShelfState → Type 0
is_sound (Faulty number place) = ⊥
is_sound _ = Unit {0}

-- Holds if the shelf holds a store or nothing. Says nothing if what the shelf holds is not known.
abbrev pub IsSoundly : Option Stored → Type 0
IsSoundly None = Unit {0}
IsSoundly (Some s) = is_sound (found s)

-- Holds if this is what was found on the shelf. Says nothing if what the shelf holds is not known.
abbrev pub IsFound : Option Stored → ShelfState → Type 0
IsFound None before = Unit {0}
IsFound (Some s) before = before ≡ found s
