-- The contents of a job script.
use Rattle.job_model.specs.Attempts.{Declared}
use Rattle.job_model.specs.declared.events.Event.{Event}
use Rattle.path_keys.specs.Paths.{Path}
use Rattle.s3_types.specs.Fates.{FateMap}
use Rattle.s3_types.specs.declared.request.Committer.{Committer}
use Rattle.s3_types.specs.declared.request.Mode.{Mode}
use Rattle.std.specs.Prelude.{Bool, List, None, Option, false, ℕ, []}
use Rattle.std.specs.FinMap as fin

-- A job script: the job's head, its attempts with their files, and the events of its run.
pub record Script : Type 0 where
  -- The job's id.
  pub job : List ℕ
  -- The destination of the job.
  pub dest : Path
  pub committer : Committer
  pub mode : Mode
  -- True if the job's id is put into the names of the files.
  pub unique : Bool
  pub tasks : ℕ
  -- How often a request without an answer is sent again.
  pub retries : ℕ
  -- The length in bytes of a part; 0 means the store's minimum.
  pub block : ℕ
  -- The number of lanes in which the job's commit completes its uploads.
  pub lanes : ℕ
  -- A number that `_SUCCESS` repeats.
  pub stamp : Option ℕ
  -- The sends that are lost or slow.
  pub fates : FateMap
  pub attempts : List Declared
  pub events : List Event

-- The script with this head and nothing more: all other head lines have their defaults, and there are no attempts and no events.
abbrev pub plain_script : List ℕ → Path → Committer → Mode → ℕ → Script
plain_script job dest committer mode tasks = record {
  job = job;
  dest = dest;
  committer = committer;
  mode = mode;
  unique = false;
  tasks = tasks;
  retries = 3;
  block = 0;
  lanes = 1;
  stamp = None;
  fates = fin.empty;
  attempts = [];
  events = [];
}
