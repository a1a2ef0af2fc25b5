-- Definitions beside those of `Staging` that no public contract cites.
use Rattle.conflict.specs.Checks.{is_none}
use Rattle.job_model.specs.Files.{File}
use Rattle.job_model.specs.Jobs.{Task}
use Rattle.job_model.specs.Known.{Known}
use Rattle.job_model.specs.declared.known.DrawnPart.{DrawnPart}
use Rattle.job_protocol.specs.AtWork.{Attempting, task_commit_told, task_commit_wants, task_script, who_of}
use Rattle.job_protocol.specs.Records.{file_key}
use Rattle.job_protocol.specs.TaskCommits.{Renaming, Storing, TaskCommit, temporary_path}
use Rattle.pending_json.specs.Trees.{set_tree}
use Rattle.pending_json.specs.declared.records.PendingSet.{PendingSet}
use Rattle.retries.specs.Retries.{Got}
use Rattle.s3_types.specs.Tags.{Spelled, is_plain_tag}
use Rattle.s3_types.specs.declared.reply.Refusal.TheVariants.{NoSuchFile}
use Rattle.s3_types.specs.declared.reply.Reply.{Reply}
use Rattle.s3_types.specs.declared.reply.Reply.TheVariants.{Refused}
use Rattle.s3_types.specs.declared.request.Request.{Request}
use Rattle.s3_types.specs.declared.request.Request.TheVariants.{ClusterPut, CreateUpload}
use Rattle.serde_json.specs.Written.{compact_text}
use Rattle.std.specs.Prelude.{Bool, IfOk, List, None, OnErr, OnOk, Option, Result, false, get_or, length, nat_le, true, ℕ, [], ◌&&◌, ◌<◌}
use Rattle.std.specs.Prelude.{◌∷◌, ◌≡◌}
use Rattle.task_requests.specs.Writing.{HasSent, part_behind, parts_in, with_tag}
use Rattle.task_staging.specs.Staging.{Keeps, commit_of}
use Rattle.task_staging.specs.declared.staging.Staging.{Staging}
use Rattle.task_staging.specs.declared.staging.StagingStage.{StagingStage}

-- The task commit together with its plan.
abbrev pub seen : Task → Staging → Attempting TaskCommit
seen t h = record { plan = t; operation = commit_of t h }

-- The tag and the size are those of the last part of the file at a place, and all other parts were acknowledged.
pub record IsLastPart (t : Task) (place : ℕ) (tag : Spelled) (size : ℕ) : Type 0 where
  pub within : place < length t.files
  pub sent : let f = get_or t.files place ([], []) in HasSent (with_tag t.known tag size).drawn (parts_in t f)

-- The commit is at this stage and has not ended.
pub record IsAt (t : Task) (h : Staging) (s : StagingStage) : Type 0 where
  pub stage : h.stage ≡ s
  pub end : h.end ≡ None
  pub keeps : Keeps t h

-- The part that follows `sent` others of the file at a place was acknowledged.
pub record CameBack (t : Task) (place sent : ℕ) (part : DrawnPart) : Type 0 where
  pub size : let f = get_or t.files place ([], []) in part.size ≡ length (part_behind t f.1 sent)
  pub plain : is_plain_tag part.tag ≡ true

-- The commit went on as the reply says, still keeps what is true, and returned its next request. If memory ran out, the plan is unchanged.
pub record Heard {E : Type 0} (t u : Task) (h g : Staging) (r : Reply) (result : Result (Option Request) E) : Type 0 where
  pub keeps : OnOk result (Keeps u g)
  pub told : OnOk result ((b : Bool) → seen u g ≡ task_commit_told (seen t h) (Got r b))
  pub next : IfOk result (λ request. request ≡ task_commit_wants (seen u g))
  pub err : OnErr result (u ≡ t)

-- The text of a set.
abbrev pub text_of : PendingSet → List ℕ
text_of set = compact_text (set_tree set)

-- The request that creates the upload of the first of these files, or the put of the set.
abbrev pub next_asks : Task → PendingSet → List File → Request
next_asks t set [] = ClusterPut (temporary_path (task_script t) (who_of t)) (text_of set)
next_asks t set (f ∷ fs) = CreateUpload t.job.dest.bucket (file_key (task_script t) f)

-- True if the reply is NoSuchFile.
abbrev pub is_no_file : Reply → Bool
is_no_file (Refused NoSuchFile) = true
is_no_file _ = false

-- True if no partition is left to check and no file to upload.
abbrev pub stores : Task → Staging → Bool
stores t h = is_none h.checks && nat_le (length t.files) h.place

-- What is known after the current request exhausted its retries.
abbrev pub worn_known : TaskCommit → Known → Known
worn_known Storing k = record { drawn = k.drawn; put_sent = true; publish_sent = k.publish_sent }
worn_known Renaming k = record { drawn = k.drawn; put_sent = k.put_sent; publish_sent = true }
worn_known c k = k
