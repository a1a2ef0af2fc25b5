-- The bounds of the plans of a job's driver and attempts.
use Rattle.job_model.specs.Files.{File, has_path}
use Rattle.job_model.specs.Jobs.{Job, Task}
use Rattle.job_model.specs.Legal.{FitsMagic, IsDest, IsGiven, are_bytes, bytes_of}
use Rattle.job_model.specs.Placed.{unique_name}
use Rattle.s3_types.specs.Names.{is_job_id}
use Rattle.s3_types.specs.declared.limits.TheConstants.{MOST_MINIMUM, MOST_SCRIPT_BYTES}
use Rattle.std.specs.Prelude.{IfSome, List, false, length, true, ℕ, [], ◌++◌, ◌<◌, ◌^◌, ◌∷◌, ◌≡◌, ◌≤◌, ◌⊎◌}

-- Holds if the head of a job keeps the bounds of a script.
pub record IsJob (j : Job) : Type 0 where
  pub job : is_job_id j.job ≡ true
  pub dest : IsDest j.dest
  pub magic : FitsMagic j.committer j.mode false
  pub tasks : j.tasks ≤ 1000
  pub retries : j.retries ≤ 9
  pub one_lane : 1 ≤ j.lanes
  pub few_lanes : j.lanes ≤ 8
  pub stamp : IfSome j.stamp (λ n. n < 10 ^ 18)

-- Holds if the path is one that a script may give, or such a path made unique to the job.
abbrev pub IsPlaced : List ℕ → List ℕ → Type 0
IsPlaced id path = IsGiven path ⊎ ((given : List ℕ) × IsGiven given × (path ≡ unique_name given id))

-- Holds if each path is allowed (`IsPlaced`) and occurs once, also among the files `before`, and the contents are bytes.
abbrev pub ArePlaced : List ℕ → List File → List File → Type 0
ArePlaced id before [] = Unit {0}
ArePlaced id before (f ∷ fs) = IsPlaced id f.0 × (are_bytes f.1 ≡ true) × (has_path before f.0 ≡ false) × ArePlaced id (before ++ f ∷ []) fs

-- Holds if the task is one of the job's, and the attempt's files and numbers keep the bounds of a script.
pub record IsTask (t : Task) : Type 0 where
  pub task : t.task < t.job.tasks
  pub attempt : t.attempt ≤ 99
  pub files : ArePlaced t.job.job [] t.files
  pub few_files : length t.files ≤ 20000
  pub few_bytes : bytes_of t.files ≤ MOST_SCRIPT_BYTES
  pub block : t.block ≤ MOST_SCRIPT_BYTES
  pub some : 1 ≤ t.minimum
  pub most : t.minimum ≤ MOST_MINIMUM
