-- The first lines of a trace: the job, the files of its attempts, and the objects that existed below the destination.
use Rattle.std.specs.Prelude.{ℕ, List, [], ◌∷◌, ◌++◌, codes, cond, map}
use Rattle.std.specs.List.{filter, flat_map}
use Rattle.std.specs.FinMap as fin
use Rattle.serde_json.specs.Data.{string}
use Rattle.text_and_lists.specs.Order.{text_eq}
use Rattle.s3_types.specs.Pages.{begins}
use Rattle.s3_types.specs.Store.{BucketContent, Content}
use Rattle.s3_types.specs.Tags.{Spelled, plain_tag}
use Rattle.s3_types.specs.declared.object.Object.{Object}
use Rattle.path_keys.specs.Paths.{Path, below}
use Rattle.pending_json.specs.Committers.{committer_word}
use Rattle.job_model.specs.Attempts.{Declared, Who}
use Rattle.job_model.specs.Files.{File}
use Rattle.job_model.specs.JobScript.{Script}
use Rattle.job_model.specs.Placed.{placed}
use Rattle.job_script.specs.HeadLines.{path_text}
use Rattle.job_script.specs.Kinds.{mode_word}
use Rattle.job_protocol.specs.Uploading.{file_parts}
use Rattle.job_soundness.specs.Claim.{keeps_by}
use Rattle.soundness.specs.declared.keeps.Keeps.{Keeps}
use Rattle.soundness.specs.declared.keeps.Keeps.TheVariants.{Everything, Partitions, Nothing}
use Rattle.trace_lines.specs.Lines.{etags, line, whole}

-- The word for which opening files a job keeps.
abbrev pub keeps_word : Keeps → List ℕ
keeps_word Everything = codes "all"
keeps_word Partitions = codes "partitions"
keeps_word Nothing = codes "none"

-- The line of a job.
abbrev pub job_line : Script → List ℕ
job_line w = line (
    (codes "op", string (codes "Job"))
    ∷ (codes "job", string w.job)
    ∷ (codes "dest", string (path_text w.dest))
    ∷ (codes "committer", string (committer_word w.committer))
    ∷ (codes "mode", string (mode_word w.mode))
    ∷ (codes "tasks", whole w.tasks)
    ∷ (codes "keeps", string (keeps_word (keeps_by w.committer w.mode)))
    ∷ [])

-- The line of an attempt.
abbrev pub attempt_line : Who → List ℕ
attempt_line a = line ((codes "op", string (codes "Attempt")) ∷ (codes "task", whole a.task) ∷ (codes "attempt", whole a.attempt) ∷ [])

-- The line of a file of an attempt, by its path and the tags of its parts.
abbrev pub file_words : (path : List ℕ) → List Spelled → List ℕ
file_words path tags = line ((codes "op", string (codes "File")) ∷ (codes "path", string path) ∷ (codes "etags", etags tags) ∷ [])

-- The line of a file of an attempt, by its path below the destination and the MD5 of each part that it is cut into.
abbrev pub file_line : Script → (minimum : ℕ) → File → List ℕ
file_line w minimum f = file_words f.0 (map plain_tag (file_parts w minimum f))

-- The lines of an attempt and of its files.
abbrev pub attempt_lines : Script → (minimum : ℕ) → Declared → List ℕ
attempt_lines w minimum a = attempt_line a.0 ++ flat_map (file_line w minimum) (placed w.unique w.job a.1)

-- The line of an object, by its bucket, its key and its tags.
abbrev pub object_words : (bucket key : List ℕ) → List Spelled → List ℕ
object_words bucket key tags = line (
    (codes "op", string (codes "Object"))
    ∷ (codes "bucket", string bucket)
    ∷ (codes "key", string key)
    ∷ (codes "etags", etags tags)
    ∷ [])

-- The line of an object, by its bucket, its key and the MD5 of all its bytes.
abbrev pub object_line : List ℕ → List ℕ × Object → List ℕ
object_line bucket o = object_words bucket o.0 (plain_tag o.1.bytes ∷ [])

-- The lines of a bucket's objects below a path, in the order of their keys; none for another bucket than the path's.
abbrev pub bucket_lines : Path → List ℕ × BucketContent → List ℕ
bucket_lines dest b =
    cond (text_eq b.0 dest.bucket)
    (flat_map (object_line dest.bucket) (filter (λ o. begins (below dest.key []) o.0) (fin.entries b.1.objects))) []

-- The lines of a store's objects below a path.
abbrev pub object_lines : Path → Content → List ℕ
object_lines dest c = flat_map (bucket_lines dest) (fin.entries c.buckets)

-- The first lines of the trace of a job over a store.
abbrev pub head_lines : Script → Content → List ℕ
head_lines w c = job_line w ++ (flat_map (attempt_lines w c.minimum) w.attempts ++ object_lines w.dest c)
