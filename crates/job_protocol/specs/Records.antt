-- The records that a job's actors write (Hadoop, S3A committer architecture: SinglePendingCommit, PendingSet, SuccessData).
use Rattle.job_model.specs.Attempts.{Who}
use Rattle.job_model.specs.Files.{File}
use Rattle.job_model.specs.JobScript.{Script}
use Rattle.job_model.specs.Known.{Drawn, Known}
use Rattle.job_protocol.specs.Knowledge.{drawn_for}
use Rattle.job_protocol.specs.Outputs.{Picks, wanted_paths}
use Rattle.path_keys.specs.Paths.{below}
use Rattle.pending_json.specs.Pending.{Pending}
use Rattle.pending_json.specs.Trees.{pending_tree, set_tree, success_tree}
use Rattle.pending_json.specs.declared.records.PendingSet.{PendingSet}
use Rattle.pending_json.specs.declared.records.SuccessMark.{SuccessMark}
use Rattle.s3_types.specs.declared.request.Committer.{Committer}
use Rattle.s3_types.specs.declared.request.Committer.TheVariants.{Magic}
use Rattle.serde_json.specs.Written.{compact_text}
use Rattle.std.specs.Prelude.{List, None, Option, Some, codes, length, map, ℕ, ◌++◌}
use Rattle.magic_paths.specs.Layout as layout

-- ---- the keys of a file, of its marker and of its record

-- The key of a file below the destination.
abbrev pub file_key : Script → File → List ℕ
file_key w f = below w.dest.key f.0

-- The directory of an attempt of the magic committer, as a key.
abbrev pub attempt_dir : Script → Who → List ℕ
attempt_dir w a = layout.attempt_key w.dest.key w.job a.task a.attempt

-- The key of a file's marker in the attempt's magic directory.
abbrev pub marker_key : Script → Who → File → List ℕ
marker_key w a f = below (attempt_dir w a) f.0

-- The key of a file's record (SinglePendingCommit) in the attempt's magic directory.
abbrev pub record_key : Script → Who → File → List ℕ
record_key w a f = below (attempt_dir w a) (f.0 ++ codes ".pending")

-- ---- their contents

-- The sizes in a record. Magic attempts write version 2 of it; staging attempts write version 1, which has none.
abbrev pub sizes_by : Committer → List ℕ → Option (List ℕ)
sizes_by Magic sizes = Some sizes
sizes_by _ sizes = None

-- The record of a file's upload.
abbrev pub file_record : Script → Who → File → Drawn → Pending
file_record w a f d = record {
  task = a.task;
  attempt = a.attempt;
  bucket = w.dest.bucket;
  destination = file_key w f;
  upload = d.upload;
  length = length f.1;
  tags = d.tags;
  sizes = sizes_by w.committer d.sizes;
}

-- The text of the record of a file's upload.
abbrev pub record_text : Script → Who → File → Drawn → List ℕ
record_text w a f d = compact_text (pending_tree (file_record w a f d))

-- The set that publishes these files.
abbrev pub files_set : Script → Who → List File → Known → PendingSet
files_set w a commits k = record {
  job = w.job;
  task = a.task;
  attempt = a.attempt;
  commits = map
      (λ f. file_record w a f (drawn_for k (file_key w f))) commits;
}

-- The text of the set (PendingSet) that publishes these files.
abbrev pub set_text : Script → Who → List File → Known → List ℕ
set_text w a commits k = compact_text (set_tree (files_set w a commits k))

-- The contents of `_SUCCESS`: the job, and the paths that the chosen attempts write.
abbrev pub mark_of : Script → Picks → SuccessMark
mark_of w picks = record { job = w.job; committer = w.committer; files = wanted_paths w picks; stamp = w.stamp }

-- The text of `_SUCCESS`.
abbrev pub mark_text : Script → Picks → List ℕ
mark_text w picks = compact_text (success_tree (mark_of w picks))
