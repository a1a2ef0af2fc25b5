-- The replies that fit a task commit, and how many requests it has left, for every committer.
use Rattle.text_and_lists.specs.Members.{RisesFrom}
use Rattle.job_model.specs.Attempts.{Who}
use Rattle.job_model.specs.Files.{File}
use Rattle.job_model.specs.JobScript.{Script}
use Rattle.job_model.specs.Known.{Known}
use Rattle.job_protocol.specs.AtWork.{Attempting, task_script, who_of}
use Rattle.job_protocol.specs.Outputs.{files}
use Rattle.job_protocol.specs.TaskCommits.{Checking, Looking, Reading, Storing, TaskCommit, TaskCommitOver, attempt_prefix}
use Rattle.job_protocol.specs.Uploading.{Creating, Sending, Uploading, file_parts}
use Rattle.list_walk.specs.Fitting.{FitsPage}
use Rattle.list_walk.specs.Left.{walk_left}
use Rattle.list_walk.specs.Walks.{keys_on}
use Rattle.s3_types.specs.Store.{Scene}
use Rattle.s3_types.specs.declared.reply.Reply.{Reply}
use Rattle.s3_types.specs.declared.reply.Reply.TheVariants.{Page}
use Rattle.std.specs.Prelude.{Bool, List, length, ℕ, [], ◌++◌, ◌+◌, ◌∷◌}
use Rattle.task_requests.specs.Publishing.{FitsRecord}
use Rattle.task_requests.specs.Writing.{FitsUpload}
use Rattle.job_protocol.specs.TaskCommits as commits

-- ---- which replies fit

-- A page lists keys only, they follow the keys so far in rising order, and the bucket exists.
abbrev pub FitsListing : List (List ℕ) → Reply → Type 0
FitsListing keys (Page entries more) = FitsPage (Page entries more) × RisesFrom [] (keys ++ keys_on entries)
FitsListing keys r = FitsPage r

-- The reply fits the current request of the commit. Any reply fits the put of the set and the requests to the cluster.
abbrev pub FitsCommit : Script → Who → Known → TaskCommit → Reply → Type 0
FitsCommit w a k (Looking keys) r = FitsListing keys r
FitsCommit w a k (Reading cs f fs) r = FitsRecord w a k f r
FitsCommit w a k (Checking d ds) r = FitsPage r
FitsCommit w a k (commits.Uploads f fs u) r = FitsUpload k.drawn u r
FitsCommit w a k _ r = Unit {0}

-- A reply that a task commit may receive.
abbrev pub commit_fits : Attempting TaskCommit → Reply → Bool → Type 0
commit_fits m r repeated = FitsCommit (task_script m.plan) (who_of m.plan) m.plan.known m.operation r

-- ---- how many requests are left

-- How many requests an upload still needs: its creation and its parts.
abbrev pub upload_left : Script → ℕ → File → Uploading → ℕ
upload_left w minimum f Creating = 1 + length (file_parts w minimum f)
upload_left w minimum f (Sending p ps) = 1 + length ps

-- How many requests the uploads of these files still need.
abbrev pub uploads_left : Script → ℕ → List File → ℕ
uploads_left w minimum [] = 0
uploads_left w minimum (f ∷ fs) = upload_left w minimum f Creating + uploads_left w minimum fs

-- How many requests a task commit still has to send. Magic: the pages, a record for each file, and the set. Staging: the partitions, the
-- uploads, the put of the set and its rename.
abbrev pub commit_left_at : Script → ℕ → Who → TaskCommit → Scene → ℕ
commit_left_at w minimum a (Looking keys) s = walk_left w.dest.bucket (attempt_prefix w a) keys s + (1 + length (files w a))
commit_left_at w minimum a (Reading cs f fs) s = 2 + length fs
commit_left_at w minimum a (Checking d ds) s = (1 + length ds) + (uploads_left w minimum (files w a) + 2)
commit_left_at w minimum a (commits.Uploads f fs u) s = upload_left w minimum f u + (uploads_left w minimum fs + 2)
commit_left_at w minimum a Storing s = 2
commit_left_at w minimum a (TaskCommitOver end) s = 0
commit_left_at w minimum a _ s = 1

-- How many requests a plan's task commit still has to send.
abbrev pub commit_left : Attempting TaskCommit → Scene → ℕ
commit_left m s = commit_left_at (task_script m.plan) m.plan.minimum (who_of m.plan) m.operation s
