-- A magic attempt's commit, by the keys listed, the places of the files that it commits, and how many records it has read.
use Rattle.job_model.specs.Files.{File}
use Rattle.job_model.specs.Jobs.{Task}
use Rattle.job_model.specs.declared.ends.TaskEnd.{TaskEnd}
use Rattle.job_protocol.specs.AtWork.{task_script, who_of}
use Rattle.job_protocol.specs.Records.{record_key}
use Rattle.job_protocol.specs.TaskCommits.{Looking, TaskCommit, TaskCommitOver, reading}
use Rattle.list_walk.specs.Walks.{keys_on}
use Rattle.std.specs.Prelude.{Bool, List, None, Option, Some, drop, false, length, map, take, true, ℕ, ◌≡◌}
use Rattle.task_magic.specs.declared.committing.Committing.{Committing}
use Rattle.task_requests.specs.Publishing.{AreReady, are_places, picked}

-- ---- how far a commit has come

-- The commit that lists, or that has read `at` of the records of these files, or that has ended.
abbrev pub commit_by : Bool → List (List ℕ) → List File → ℕ → Option TaskEnd → TaskCommit
commit_by listing keys cs at (Some end) = TaskCommitOver end
commit_by true keys cs at None = Looking keys
commit_by false keys cs at None = reading cs (drop at cs)

-- The task commit that the kept values represent.
abbrev pub commit_of : Task → Committing → TaskCommit
commit_of t c = commit_by c.listing (keys_on c.walk) (picked t.files c.places) c.at c.end

-- ---- what a commit keeps

-- The key of a file's record.
abbrev pub record_of : Task → File → List ℕ
record_of t f = record_key (task_script t) (who_of t) f

-- These are the keys of the records of the files at these places.
abbrev pub AreRecords : Task → List (List ℕ) → List ℕ → Type 0
AreRecords t keys places = keys ≡ map (record_of t) (picked t.files places)

-- The places are those of files, the keys are those of their records, and the attempt knows the uploads of the files whose records were
-- read.
pub record HoldsCommit (t : Task) (places : List ℕ) (keys : List (List ℕ)) (at : ℕ) : Type 0 where
  pub within : are_places (length t.files) places ≡ true
  pub records : AreRecords t keys places
  pub ready : AreReady t (take at (picked t.files places))

-- What a commit keeps is true of its plan.
abbrev pub Keeps : Task → Committing → Type 0
Keeps t c = HoldsCommit t c.places c.records c.at

-- ---- replies and sends

-- ---- the listing
