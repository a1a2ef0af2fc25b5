-- The data of a job, and what an attempt of it knows.
use Rattle.job_model.specs.Files.{File}
use Rattle.job_model.specs.Known.{Known}
use Rattle.path_keys.specs.Paths.{Path}
use Rattle.s3_types.specs.declared.request.Committer.{Committer}
use Rattle.s3_types.specs.declared.request.Mode.{Mode}
use Rattle.std.specs.List.{list_any}
use Rattle.std.specs.Prelude.{Bool, List, Option, nat_eq, ℕ}

-- The head of a job.
pub record Job : Type 0 where
  pub job : List ℕ
  pub dest : Path
  pub committer : Committer
  pub mode : Mode
  pub tasks : ℕ
  pub retries : ℕ
  pub lanes : ℕ
  pub stamp : Option ℕ

-- What an attempt knows and has done.
pub record Task : Type 0 where
  pub job : Job
  pub task : ℕ
  pub attempt : ℕ
  pub files : List File
  -- The length in bytes of a part; 0 means the store's minimum.
  pub block : ℕ
  -- The store's minimum length in bytes of a part.
  pub minimum : ℕ
  pub known : Known

-- True if the task is among these.
abbrev pub has_task : List ℕ → ℕ → Bool
has_task tasks t = list_any (nat_eq t) tasks
