-- Which answers must fit, and what must be known of an operation besides the facts of its job.
use Rattle.text_and_lists.specs.Members.{IsIn}
use Rattle.job_invariant.specs.Standing.{HasPublished}
use Rattle.job_invariant.specs.Stores.{sets_at}
use Rattle.job_invariant.specs.Told.{Told, known}
use Rattle.job_model.specs.Attempts.{Who}
use Rattle.job_model.specs.Files.{File}
use Rattle.job_model.specs.JobScript.{Script}
use Rattle.job_protocol.specs.JobCommits.{Commit, Fetching}
use Rattle.job_protocol.specs.Outputs.{files}
use Rattle.job_protocol.specs.Seen.{Seen}
use Rattle.job_protocol.specs.TaskCommits.{Reading, TaskCommit}
use Rattle.s3_types.specs.Answer.{answer}
use Rattle.s3_types.specs.Store.{Scene}
use Rattle.s3_types.specs.declared.reply.Reply.{Reply}
use Rattle.s3_types.specs.declared.request.Request.{Request}
use Rattle.std.specs.Prelude.{Bool, List, Option, Some, length, ℕ, ◌<◌, ◌∷◌, ◌≡◌}

-- The answer that S3 must give to the current request fits, whether or not an earlier send of it was lost.
abbrev pub FitsDue : {O : Type 0} → (O → Option Request) → (O → Reply → Bool → Type 0) → O → Scene → Type 0
FitsDue wants fits o s = (r : Request) → wants o ≡ Some r → (repeated : Bool) → fits o (answer s r) repeated

-- The records that a task commit still has to read are those of the attempt's own files.
abbrev pub ReadsOwn : Script → Who → TaskCommit → Type 0
ReadsOwn w a (Reading cs f fs) = (g : File) → IsIn g (f ∷ fs) → IsIn g (files w a)
ReadsOwn w a _ = Unit {0}

-- The set that a job commit reads next exists.
abbrev pub SetStands : Script → Seen → Commit → Type 0
SetStands w s (Fetching sets n) = (bytes : List ℕ) × (sets_at w s.scene (length sets) ≡ Some bytes)
SetStands w s _ = Unit {0}

-- For each task some attempt published last.
abbrev pub AllPublished : Script → Seen → Type 0
AllPublished w s = (t : ℕ) → t < w.tasks → HasPublished s t

-- The same is known of an attempt before and after.
pub record IsSameTold (m now : Told) (a : Who) : Type 0 where
  pub known : known now a ≡ known m a
  pub undone : now.undone a ≡ m.undone a
