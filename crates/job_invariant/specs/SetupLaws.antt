-- The laws of the driver's set-up.
use Rattle.job_invariant.specs.Emptying.{SetsUp}
use Rattle.job_invariant.specs.Foreign.{IsForeign}
use Rattle.job_invariant.specs.FactsKeep.{IsBare}
use Rattle.job_invariant.specs.Stores.{at_id, at_key}
use Rattle.job_model.specs.Attempts.{Who}
use Rattle.job_model.specs.JobScript.{Script}
use Rattle.job_model.specs.Known.{Drawn}
use Rattle.job_model.specs.Legal.{IsLegal}
use Rattle.job_protocol.specs.Scope.{NoClusterFile}
use Rattle.job_protocol.specs.Seen.{is_staging}
use Rattle.job_protocol.specs.Setup.{Setup, SetupOver, setup_after, setup_asks, setup_start}
use Rattle.job_protocol.specs.View.{Same, view}
use Rattle.magic_paths.specs.Layout.{magic_prefix, success_key}
use Rattle.retries.specs.Retries.{Retried, step}
use Rattle.s3_types.specs.Answer.{answer}
use Rattle.s3_types.specs.Moment.{IsHonestOutcome, effect}
use Rattle.s3_types.specs.Pages.{begins}
use Rattle.s3_types.specs.Store.{Scene}
use Rattle.s3_types.specs.declared.journal.Outcome.{Outcome}
use Rattle.s3_types.specs.declared.request.Request.{Request}
use Rattle.std.specs.Prelude.{List, Some, false, true, ℕ, ◌≡◌}
use Rattle.store_frame.specs.Held.{HasBucket}
use Rattle.std.specs.FinMap as fin
use Rattle.job_model.specs.declared.ends.SetupEnd.TheVariants as ends

-- From one scene to the other only the job's magic directory and the success marker change. Visible files, live uploads and cluster files
-- stay.
pub record ClearsAlone (w : Script) (s t : Scene) : Type 0 where
  pub shows : Same (view w.dest t.content) (view w.dest s.content)
  pub keys : (k : List ℕ) → begins (magic_prefix w.dest.key w.job) k ≡ false → (k ≡ success_key w.dest.key → ⊥)
      → at_key w t.content k ≡ at_key w s.content k
  pub uploads : (id : ℕ) → at_id w t.content id ≡ at_id w s.content id
  pub files : t.files ≡ s.files

-- What a set-up does, for every committer and conflict mode.
pub record SetupGoes : Type 0 where
  pub begins : (w : Script) (s : Scene) → SetsUp w s.content setup_start
  pub goes : (w : Script) (s : Scene) (retries : ℕ) (t : Retried Setup) → SetsUp w s.content t.operation → (r : Request)
      → setup_asks w t.operation ≡ Some r → (o : Outcome) → IsHonestOutcome o (answer s r)
      → SetsUp w (effect s r o).content (step retries (setup_after w) t o).operation
  pub alone : (w : Script) → IsLegal w → (s : Scene) (t : Setup) → SetsUp w s.content t → (r : Request) → setup_asks w t ≡ Some r
      → (o : Outcome) → ClearsAlone w s (effect s r o)
  -- No request of a stranger changes whether the state of the set-up fits.
  pub beside : (w : Script) (drawn : Who → List Drawn) (s : Scene) (t : Setup) → SetsUp w s.content t → (r : Request) → IsForeign w drawn r
      → (o : Outcome) → SetsUp w (effect s r o).content t
  -- A cluster without files has none of the job's, and neither a set-up nor a stranger puts one there.
  pub empty : (w : Script) (s : Scene) → s.files ≡ fin.empty → NoClusterFile w s
  pub no_file : (w : Script) → IsLegal w → (s : Scene) (t : Setup) → SetsUp w s.content t → (r : Request) → setup_asks w t ≡ Some r
      → (o : Outcome) → NoClusterFile w s → NoClusterFile w (effect s r o)
  pub no_file_beside : (w : Script) (drawn : Who → List Drawn) (s : Scene) → HasBucket s.content w.dest.bucket → (r : Request)
      → IsForeign w drawn r → (o : Outcome) → NoClusterFile w s → NoClusterFile w (effect s r o)
  -- If the set-up ended Done, the job's facts can begin. With a staging committer the cluster must have no file of the job.
  pub done : (w : Script) (s : Scene) → SetsUp w s.content (SetupOver ends.Done) → (is_staging w.committer ≡ true → NoClusterFile w s)
      → HasBucket s.content w.dest.bucket × IsBare w s
