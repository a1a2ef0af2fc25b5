-- An attempt's commit of its task, which publishes a set of its uploads (Hadoop, S3A committer architecture: task commit).
use Rattle.text_and_lists.specs.Order.{text_cmp, text_eq}
use Rattle.job_model.specs.Attempts.{Who}
use Rattle.job_model.specs.Files.{File}
use Rattle.job_model.specs.JobScript.{Script}
use Rattle.job_model.specs.Known.{Known}
use Rattle.job_model.specs.declared.ends.TaskEnd.{TaskEnd}
use Rattle.job_protocol.specs.Conflicts.{checks_partitions, partitions}
use Rattle.job_protocol.specs.Outputs.{files, paths_of}
use Rattle.job_protocol.specs.Records.{attempt_dir, file_key, record_key, set_text}
use Rattle.job_protocol.specs.Uploading.{AllSent, Creating, GoesOn, IsGone, Uploaded, Uploading, upload_asks, upload_hears}
use Rattle.list_walk.specs.Walks.{More, Walked, Whole, page_after, walked}
use Rattle.path_keys.specs.Paths.{below}
use Rattle.retries.specs.Retries.{Got, Item, OutOfMemory, WornOut}
use Rattle.s3_types.specs.declared.reply.Refusal.TheVariants.{NoSuchFile, NoSuchKey}
use Rattle.s3_types.specs.declared.reply.Reply.{Reply}
use Rattle.s3_types.specs.declared.reply.Reply.TheVariants.{Page, Refused}
use Rattle.s3_types.specs.declared.request.Committer.{Committer}
use Rattle.s3_types.specs.declared.request.Committer.TheVariants.{Magic}
use Rattle.s3_types.specs.declared.request.Request.{Request}
use Rattle.s3_types.specs.declared.request.Request.TheVariants.{ClusterPut, ClusterRename, GetObject, ListPage, PutObject}
use Rattle.std.specs.List.{filter, flat_map, list_any}
use Rattle.std.specs.Ordering.{is_lt}
use Rattle.std.specs.Prelude.{Bool, List, None, Option, Some, codes, cond, false, map, ℕ, [], ◌++◌, ◌∷◌}
use Rattle.magic_paths.specs.Layout as layout
use Rattle.job_model.specs.declared.ends.TaskEnd.TheVariants as ends

-- How far a task's commit has come.
pub data TaskCommit : Type 0 where
  -- magic: lists the attempt's own directory, with the keys so far
  Looking : (keys : List (List ℕ)) → TaskCommit
  -- magic: reads the record of this file, then those of the others; `commits` are all files that it publishes
  Reading : (commits : List File) (file : File) (others : List File) → TaskCommit
  -- magic: puts the set of these files' uploads, which publishes them
  Publishing : (commits : List File) → TaskCommit
  -- staging: looks for a key below this partition; the others follow
  Checking : (partition : List ℕ) (others : List (List ℕ)) → TaskCommit
  -- staging: uploads this file; the others follow
  Uploads : (file : File) (others : List File) (uploading : Uploading) → TaskCommit
  -- staging: puts the set into the attempt's temporary file
  Storing : TaskCommit
  -- staging: renames the temporary file to the task's set, which publishes it
  Renaming : TaskCommit
  TaskCommitOver : (end : TaskEnd) → TaskCommit

-- The prefix of an attempt's keys.
abbrev pub attempt_prefix : Script → Who → List ℕ
attempt_prefix w a = attempt_dir w a ++ codes "/"

-- The cluster path of an attempt's temporary file.
abbrev pub temporary_path : Script → Who → List ℕ
temporary_path w a = layout.temporary_path w.job a.task a.attempt

-- The prefix of the keys below a partition.
abbrev pub partition_prefix : Script → List ℕ → List ℕ
partition_prefix w d = below w.dest.key (d ++ codes "/")

-- The next request of a task's commit, or none if it is over.
abbrev pub task_commit_asks : Script → Who → Known → TaskCommit → Option Request
task_commit_asks w a k (Looking keys) = Some (page_after w.dest.bucket (attempt_prefix w a) keys)
task_commit_asks w a k (Reading cs f fs) = Some (GetObject w.dest.bucket (record_key w a f))
task_commit_asks w a k (Publishing cs) = Some (PutObject w.dest.bucket (layout.set_key w.dest.key w.job a.task) (set_text w a cs k) None)
task_commit_asks w a k (Checking d ds) = Some (ListPage w.dest.bucket (partition_prefix w d) false [] 1)
task_commit_asks w a k (Uploads f fs u) = Some (upload_asks w k f u)
task_commit_asks w a k Storing = Some (ClusterPut (temporary_path w a) (set_text w a (files w a) k))
task_commit_asks w a k Renaming = Some (ClusterRename (temporary_path w a) (layout.staged_set_path w.job a.task))
task_commit_asks w a k (TaskCommitOver end) = None

-- ---- magic

-- The lesser of two keys.
abbrev pub least_of : Option (List ℕ) → List ℕ → List ℕ
least_of None k = k
least_of (Some l) k = cond (is_lt (text_cmp l k)) l k

-- The least of the keys that is not listed.
abbrev pub least_missing : List (List ℕ) → List (List ℕ) → Option (List ℕ)
least_missing listed [] = None
least_missing listed (k ∷ ks) = cond (list_any (text_eq k) listed) (least_missing listed ks) (Some (least_of (least_missing listed ks) k))

-- The files whose records are listed, in the order of the listing.
abbrev pub in_order : Script → Who → List (List ℕ) → List File
in_order w a keys = flat_map (λ k. filter (λ f. text_eq (record_key w a f) k) (files w a)) keys

-- The read of the next record. After the last one the set is put.
abbrev pub reading : List File → List File → TaskCommit
reading cs [] = Publishing cs
reading cs (f ∷ fs) = Reading cs f fs

-- The commit after the listing: it ends with Gone of the least missing record, or reads the records.
abbrev pub looked_at : Option (List ℕ) → List File → TaskCommit
looked_at (Some k) cs = TaskCommitOver (ends.Gone k)
looked_at None cs = reading cs cs

-- The commit after a page of the attempt's own directory.
abbrev pub looked : Script → Who → Walked (List ℕ) → TaskCommit
looked w a (More keys) = Looking keys
looked w a (Whole keys) = looked_at (least_missing keys (map (record_key w a) (files w a))) (in_order w a keys)

-- The commit after the read of a record: it ends with Gone if the record does not exist.
abbrev pub read_record : Script → Who → List File → File → List File → Reply → TaskCommit
read_record w a cs f fs (Refused NoSuchKey) = TaskCommitOver (ends.Gone (record_key w a f))
read_record w a cs f fs _ = reading cs fs

-- ---- staging

-- The upload of the next file. After the last one the set is put into the temporary file.
abbrev pub storing : List File → TaskCommit
storing [] = Storing
storing (f ∷ fs) = Uploads f fs Creating

-- The check of the next partition. After the last one the files are uploaded.
abbrev pub checking : Script → Who → List (List ℕ) → TaskCommit
checking w a [] = storing (files w a)
checking w a (d ∷ ds) = Checking d ds

-- The commit after a page of a partition: any key on it is a conflict.
abbrev pub checked : Script → Who → List ℕ → List (List ℕ) → Reply → TaskCommit
checked w a d ds (Page [] more) = checking w a ds
checked w a d ds (Page (x ∷ xs) more) = TaskCommitOver (ends.Conflict d)
checked w a d ds _ = Checking d ds

-- The commit after a reply to a file's upload.
abbrev pub uploaded : Script → File → List File → Uploaded → TaskCommit
uploaded w f fs (GoesOn u) = Uploads f fs u
uploaded w f fs AllSent = storing fs
uploaded w f fs IsGone = TaskCommitOver (ends.Gone (file_key w f))

-- The commit after the rename. If the temporary file does not exist, a repeated rename counts as done.
abbrev pub renamed : Script → Who → Reply → Bool → TaskCommit
renamed w a (Refused NoSuchFile) repeated = TaskCommitOver (cond repeated ends.Done (ends.Gone (temporary_path w a)))
renamed w a _ repeated = TaskCommitOver ends.Done

-- The partitions that the attempt writes, if its commit must check them.
abbrev pub to_check : Script → Who → List (List ℕ)
to_check w a = cond (checks_partitions w.committer w.mode) (partitions (paths_of (files w a))) []

-- ---- the operation

-- The start of a task's commit, by committer.
abbrev pub task_commit_start_by : Committer → Script → Who → TaskCommit
task_commit_start_by Magic w a = Looking []
task_commit_start_by _ w a = checking w a (to_check w a)

-- The start of a task's commit.
abbrev pub task_commit_start : Script → Who → TaskCommit
task_commit_start w a = task_commit_start_by w.committer w a

-- The commit after a reply. `repeated`: an earlier send of the request was lost.
abbrev pub task_commit_hears : Script → ℕ → Who → TaskCommit → Reply → Bool → TaskCommit
task_commit_hears w minimum a (Looking keys) r repeated = looked w a (walked keys r)
task_commit_hears w minimum a (Reading cs f fs) r repeated = read_record w a cs f fs r
task_commit_hears w minimum a (Publishing cs) r repeated = TaskCommitOver ends.Done
task_commit_hears w minimum a (Checking d ds) r repeated = checked w a d ds r
task_commit_hears w minimum a (Uploads f fs u) r repeated = uploaded w f fs (upload_hears w minimum f u r)
task_commit_hears w minimum a Storing r repeated = Renaming
task_commit_hears w minimum a Renaming r repeated = renamed w a r repeated
task_commit_hears w minimum a (TaskCommitOver end) r repeated = TaskCommitOver end

-- How a task's commit ended, if it is over.
abbrev pub task_commit_over : TaskCommit → Option TaskEnd
task_commit_over (TaskCommitOver end) = Some end
task_commit_over _ = None

-- The commit after a reply, after a request that ran out of retries, or after memory ran out.
abbrev pub task_commit_after : Script → ℕ → Who → TaskCommit → Item → TaskCommit
task_commit_after w minimum a t (Got r repeated) = task_commit_hears w minimum a t r repeated
task_commit_after w minimum a t WornOut = TaskCommitOver ends.StoreFault
task_commit_after w minimum a t OutOfMemory = TaskCommitOver ends.NoMemory
