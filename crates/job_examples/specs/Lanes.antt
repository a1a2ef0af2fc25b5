-- A job's commit that completes four uploads in one lane and in two, and its revert.
use Rattle.job_examples.specs.FourFiles.{the_set}
use Rattle.job_examples.specs.Jobs.{Course, attempt, course_of, hello_tag, job, lake}
use Rattle.job_model.specs.JobScript.{Script}
use Rattle.job_model.specs.Known.{nothing_known}
use Rattle.job_protocol.specs.JobCommits.{Sets, picks_of, replacing}
use Rattle.job_protocol.specs.Operations.{TheCommit}
use Rattle.job_protocol.specs.Records.{mark_text}
use Rattle.s3_types.specs.declared.journal.Outcome.{Outcome}
use Rattle.s3_types.specs.declared.journal.Outcome.TheVariants.{Answered, ReplyLost, Slow}
use Rattle.s3_types.specs.declared.reply.Refusal.TheVariants.{NoSuchUpload}
use Rattle.s3_types.specs.declared.reply.Reply.TheVariants.{Aborted, Completed, Deleted, Refused, Stored}
use Rattle.s3_types.specs.declared.request.Actor.TheVariants.{Driver}
use Rattle.s3_types.specs.declared.request.Committer.TheVariants.{Magic}
use Rattle.s3_types.specs.declared.request.Mode.TheVariants.{Append}
use Rattle.s3_types.specs.declared.request.Request.{Request}
use Rattle.s3_types.specs.declared.request.Request.TheVariants.{AbortUpload, CompleteUpload, DeleteObject, PutObject}
use Rattle.std.specs.Prelude.{List, None, Option, Some, codes, false, ℕ, [], ◌∷◌, ◌≡◌}
use Rattle.job_model.specs.declared.ends.CommitEnd.TheVariants as commits
use Rattle.job_model.specs.declared.ends.FaultStage.TheVariants as stages
use Rattle.job_model.specs.declared.ends.OpEnd.TheVariants as ends

-- The job's script.
abbrev pub script : ℕ → ℕ → Script
script retries lanes = job Magic Append 1 retries lanes (attempt 0 0
    ((codes "a", codes "hello") ∷ (codes "b", codes "hello") ∷ (codes "c", codes "hello") ∷ (codes "d", codes "hello") ∷ []) ∷ []) []

-- The sets that were read: one set with four uploads.
abbrev pub sets : Sets
sets = the_set ∷ []

-- The completion of an upload.
abbrev pub completes : List ℕ → ℕ → Option Request
completes key id = Some (CompleteUpload lake key id (record { number = 1; tag = hello_tag } ∷ []))

-- The abort of an upload.
abbrev pub aborts : List ℕ → ℕ → Option Request
aborts key id = Some (AbortUpload lake key id)

-- The deletion of a key.
abbrev pub deletes : List ℕ → Option Request
deletes key = Some (DeleteObject lake key)

-- The put of `_SUCCESS`.
abbrev pub marks : Script → Option Request
marks w = Some (PutObject lake (codes "out/_SUCCESS") (mark_text w (picks_of sets)) None)

-- The completion is answered.
abbrev pub done : Outcome
done = Answered (Completed hello_tag)

-- The put of `_SUCCESS` is answered.
abbrev pub put_done : Outcome
put_done = Answered (Stored hello_tag)

-- The requests and the end of the commit after its set is read, with these outcomes.
abbrev pub goes : ℕ → ℕ → List Outcome → Course
goes retries lanes os = course_of (record { script = script retries lanes; minimum = 5242880; shared = false }) Driver
    (record { operation = TheCommit (replacing (script retries lanes) sets []); known = nothing_known }) os

-- The requests of a commit in one lane and in two, and those of its revert.
pub record LanesRun : Type 0 where
  -- In one lane the completions come one after another, and a lost one is sent again at once.
  pub one : goes 3 1 (ReplyLost ∷ Answered (Refused NoSuchUpload) ∷ done ∷ done ∷ done ∷ put_done ∷ [])
      ≡ record {
        requests = completes (codes "out/a") 1 ∷ completes (codes "out/a") 1 ∷ completes (codes "out/b") 2 ∷ completes
            (codes "out/c") 3 ∷ completes (codes "out/d") 4 ∷ marks (script 3 1) ∷ [];
        end = Some (ends.Commit commits.Committed);
      }
  -- In two lanes they take turns, and a lost one is sent again at its lane's next turn.
  pub two : goes 3 2 (ReplyLost ∷ done ∷ Answered (Refused NoSuchUpload) ∷ done ∷ done ∷ put_done ∷ [])
      ≡ record {
        requests = completes (codes "out/a") 1 ∷ completes (codes "out/b") 2 ∷ completes (codes "out/a") 1 ∷ completes
            (codes "out/d") 4 ∷ completes (codes "out/c") 3 ∷ marks (script 3 2) ∷ [];
        end = Some (ends.Commit commits.Committed);
      }
  -- An upload whose completion runs out of retries is aborted and its key deleted. Then the completed key is deleted, and then the uploads
  -- that were never sent are aborted.
  pub reverts : goes 0 1 (done ∷ ReplyLost ∷ Answered Aborted ∷ Answered Deleted ∷ Answered Deleted ∷ Answered Aborted ∷ Answered Aborted ∷
      [])
      ≡ record {
        requests = completes (codes "out/a") 1 ∷ completes (codes "out/b") 2 ∷ aborts (codes "out/b") 2 ∷ deletes (codes "out/b") ∷
            deletes (codes "out/a") ∷ aborts (codes "out/c") 3 ∷ aborts (codes "out/d") 4 ∷ [];
        end = Some
            (ends.Commit (commits.StoreFault stages.Complete));
      }
  -- With lanes, each other upload that was sent and not answered is treated like it, even if it was only slow. A request of the revert that
  -- runs out of retries is skipped.
  pub reverts_tried : goes 1 2 (ReplyLost ∷ Slow ∷ ReplyLost ∷ Answered Aborted ∷ Answered Deleted ∷ Answered Aborted ∷ ReplyLost ∷
      ReplyLost ∷ Answered Aborted ∷ Answered Aborted ∷ [])
      ≡ record {
        requests = completes (codes "out/a") 1 ∷ completes (codes "out/b") 2 ∷ completes (codes "out/a") 1 ∷ aborts (codes "out/a")
            1 ∷ deletes (codes "out/a") ∷ aborts (codes "out/b") 2 ∷ deletes (codes "out/b") ∷ deletes (codes "out/b") ∷ aborts
            (codes "out/c") 3 ∷ aborts (codes "out/d") 4 ∷ [];
        end = Some (ends.Commit (commits.StoreFault stages.Complete));
      }
  -- If the put of `_SUCCESS` runs out of retries, nothing is reverted.
  pub marker : goes 1 4 (done ∷ done ∷ done ∷ done ∷ ReplyLost ∷ Slow ∷ [])
      ≡ record {
        requests = completes (codes "out/a") 1 ∷ completes (codes "out/b") 2 ∷ completes (codes "out/c") 3 ∷ completes
            (codes "out/d") 4 ∷ marks (script 1 4) ∷ marks (script 1 4) ∷ [];
        end = Some (ends.Commit (commits.StoreFault stages.Success));
      }
