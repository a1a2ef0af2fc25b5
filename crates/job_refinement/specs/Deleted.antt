-- What the deletion of a replace mode leaves if nobody else changes the store (Hadoop, S3A committers: conflict mode replace).
use Rattle.text_and_lists.specs.Members.{IsIn}
use Rattle.conflict.specs.Deletions.{Deletion, deleted, deletion_asks, deletion_hears, spared}
use Rattle.job_model.specs.JobScript.{Script}
use Rattle.job_protocol.specs.View.{object_at}
use Rattle.list_walk.specs.Walks.{sweep_start}
use Rattle.s3_types.specs.Answer.{answer, apply}
use Rattle.s3_types.specs.Moment.{effect, is_unanswered}
use Rattle.s3_types.specs.Pages.{begins}
use Rattle.s3_types.specs.Store.{Scene}
use Rattle.s3_types.specs.declared.journal.Outcome.{Outcome}
use Rattle.s3_types.specs.declared.request.Request.{Request}
use Rattle.std.specs.Prelude.{List, None, Some, false, true, ℕ, ◌≡◌}
use Rattle.store_frame.specs.Held.{HasBucket}

-- A deletion in this bucket led from one scene and state to another. Each of its requests either got the answer that S3 must give, and the
-- deletion went on, or got no answer and was sent again.
pub data Deletes (bucket : List ℕ) (s : Scene) (d : Deletion) : Scene → Deletion → Type 0 where
  nothing_sent : Deletes bucket s d s d
  had_answer : (t : Scene) (e : Deletion) (r : Request) → Deletes bucket s d t e → deletion_asks bucket e ≡ Some r
      → Deletes bucket s d (apply t r) (deletion_hears e (answer t r))
  had_none : (t : Scene) (e : Deletion) (r : Request) (o : Outcome) → Deletes bucket s d t e → deletion_asks bucket e ≡ Some r
      → is_unanswered o ≡ true → Deletes bucket s d (effect t r o) e

-- The deletion with which the mode replace of a script's committer begins, if the job writes these partitions.
abbrev pub deleting : Script → List (List ℕ) → Deletion
deleting w partitions = record { prefixes = deleted w.committer w.dest partitions; sweep = sweep_start; spared = spared w.dest }

-- After such a deletion has ended, no object is left below one of its prefixes but those of the destination's magic directories.
abbrev pub DeletionsLeave : Type 0
DeletionsLeave = (w : Script) (partitions : List (List ℕ)) (s t : Scene) (e : Deletion) → HasBucket s.content w.dest.bucket
    → Deletes w.dest.bucket s (deleting w partitions) t e → deletion_asks w.dest.bucket e ≡ None
    → (p k : List ℕ) → IsIn p (deleted w.committer w.dest partitions) → begins p k ≡ true → begins (spared w.dest) k ≡ false
    → object_at t.content w.dest.bucket k ≡ None
