-- A staging attempt's commit, by the partitions left to check, the records of the uploaded files, and how far the next file has come.
use Rattle.job_model.specs.Files.{File}
use Rattle.job_model.specs.JobScript.{Script}
use Rattle.job_model.specs.Jobs.{Task}
use Rattle.job_model.specs.Known.{Drawn, Known}
use Rattle.job_model.specs.declared.ends.TaskEnd.{TaskEnd}
use Rattle.job_protocol.specs.AtWork.{task_script, who_of}
use Rattle.job_protocol.specs.Records.{file_key, files_set}
use Rattle.job_protocol.specs.TaskCommits.{Checking, Renaming, Storing, TaskCommit, TaskCommitOver, storing}
use Rattle.job_protocol.specs.Uploading.{Sending, file_parts}
use Rattle.pending_json.specs.declared.records.PendingSet.{PendingSet}
use Rattle.std.specs.Prelude.{List, None, Option, Some, drop, length, take, ℕ, [], ◌<◌, ◌∷◌, ◌≡◌}
use Rattle.task_requests.specs.Writing.{HasSent}
use Rattle.task_staging.specs.declared.staging.Staging.{Staging}
use Rattle.task_staging.specs.declared.staging.StagingStage.{StagingStage}
use Rattle.job_protocol.specs.TaskCommits as commits
use Rattle.task_staging.specs.declared.staging.StagingStage.TheVariants as stages

-- ---- how far a commit has come

-- The commit that still has to check these partitions and then upload these files.
abbrev pub opening : List (List ℕ) → List File → TaskCommit
opening (d ∷ ds) fs = Checking d ds
opening [] fs = storing fs

-- The commit that still has to send these parts of file `f` and then upload the files `fs`.
abbrev pub sending_from : File → List File → List (List ℕ) → TaskCommit
sending_from f fs [] = storing fs
sending_from f fs (p ∷ ps) = commits.Uploads f fs (Sending p ps)

-- The commit that is uploading the first of these files, after `n` acknowledged parts.
abbrev pub sending_at : Script → ℕ → ℕ → List File → TaskCommit
sending_at w minimum n [] = Storing
sending_at w minimum n (f ∷ fs) = sending_from f fs (drop n (file_parts w minimum f))

-- The commit at a stage.
abbrev pub staged_at : Script → ℕ → StagingStage → List (List ℕ) → List File → TaskCommit
staged_at w minimum stages.Opening ds fs = opening ds fs
staged_at w minimum (stages.Sending n) ds fs = sending_at w minimum n fs
staged_at w minimum stages.Renaming ds fs = Renaming

-- The commit after `place` uploaded files, or the commit that ended so.
abbrev pub staged_by : Task → StagingStage → List (List ℕ) → ℕ → Option TaskEnd → TaskCommit
staged_by t s ds place None = staged_at (task_script t) t.minimum s ds (drop place t.files)
staged_by t s ds place (Some end) = TaskCommitOver end

-- The task commit that the kept values represent.
abbrev pub commit_of : Task → Staging → TaskCommit
commit_of t h = staged_by t h.stage h.checks h.place h.end

-- ---- what a commit keeps

-- The newest upload is for this key.
abbrev pub IsOfKey : List ℕ → List Drawn → Type 0
IsOfKey key [] = ⊥
IsOfKey key (d ∷ ds) = d.key ≡ key

-- The newest upload is for the first of these files, and has `n` of its parts but not all.
abbrev pub HoldsSent : Script → ℕ → Known → ℕ → List File → Type 0
HoldsSent w minimum k n [] = ⊥
HoldsSent w minimum k n (f ∷ fs) = (n < length (file_parts w minimum f)) × HasSent k.drawn (take n (file_parts w minimum f))
    × IsOfKey (file_key w f) k.drawn

-- No file is uploaded while partitions are left to check.
abbrev pub HoldsAt : Task → StagingStage → List (List ℕ) → ℕ → Type 0
HoldsAt t stages.Opening [] place = Unit {0}
HoldsAt t stages.Opening (d ∷ ds) place = place ≡ 0
HoldsAt t (stages.Sending n) ds place = (ds ≡ []) × HoldsSent (task_script t) t.minimum t.known n (drop place t.files)
HoldsAt t stages.Renaming ds place = Unit {0}

-- The set of the first `place` files.
abbrev pub set_of : Task → ℕ → PendingSet
set_of t place = files_set (task_script t) (who_of t) (take place t.files) t.known

-- The kept set is that of the uploaded files, and the upload of the current file is known.
pub record HoldsSet (t : Task) (s : StagingStage) (ds : List (List ℕ)) (place : ℕ) (held : PendingSet) : Type 0 where
  pub set : held ≡ set_of t place
  pub at : HoldsAt t s ds place

-- What a commit keeps is true until it ends.
abbrev pub KeepsBy : Task → Staging → Option TaskEnd → Type 0
KeepsBy t h None = HoldsSet t h.stage h.checks h.place h.set
KeepsBy t h (Some end) = Unit {0}

-- What a commit keeps is true of its plan.
abbrev pub Keeps : Task → Staging → Type 0
Keeps t h = KeepsBy t h h.end

-- ---- what holds before a reply, and the result after it

-- ---- requests and replies
