-- Requests that change nothing outside the destination; no operation of the job sends any other.
use Rattle.job_invariant.specs.Driver.{FitsClean}
use Rattle.job_invariant.specs.Emptying.{SetsUp}
use Rattle.job_invariant.specs.Facts.{Hold, IsAttempt}
use Rattle.job_invariant.specs.FiledLaws.{Commits}
use Rattle.job_invariant.specs.Fits.{Fits}
use Rattle.job_invariant.specs.Told.{Told, driver_entry, entry, known}
use Rattle.job_model.specs.Attempts.{Who}
use Rattle.job_model.specs.JobScript.{Script}
use Rattle.job_model.specs.Legal.{IsLegal}
use Rattle.job_protocol.specs.Cleanups.{Clean, clean_asks}
use Rattle.job_protocol.specs.JobCommits.{Commit, commit_asks}
use Rattle.job_protocol.specs.Operations.{Operation, Setting, asks}
use Rattle.job_protocol.specs.Scope.{IsZeroRename}
use Rattle.job_protocol.specs.Seen.{Seen}
use Rattle.job_protocol.specs.Setup.{Setup, setup_asks}
use Rattle.s3_types.specs.Moment.{effect}
use Rattle.s3_types.specs.Store.{Scene}
use Rattle.s3_types.specs.declared.journal.Outcome.{Outcome}
use Rattle.s3_types.specs.declared.request.Request.{Request}
use Rattle.std.specs.Prelude.{Some, ℕ, ◌≡◌}

-- No request of the job's actors copies anything or changes what is outside the destination, and the driver sends no data. A request
-- changes what readers see only if it is a completion or a deletion of the driver's commit that takes effect.
pub record OwnChange : Type 0 where
  pub setup : (w : Script) → IsLegal w → (s : Scene) (t : Setup) → SetsUp w s.content t → (r : Request) → setup_asks w t ≡ Some r
      → (n : ℕ) (o : Outcome) → IsZeroRename w (driver_entry n r o) s.content (effect s r o).content
  pub attempts : (g : Setting) → IsLegal g.script → (s : Seen) (m : Told) → Hold g.script g.minimum s m → (a : Who) → IsAttempt g.script a
      → (op : Operation) → Fits g.script g.minimum a m op → (r : Request) → asks g a (known m a) op ≡ Some r → (n : ℕ) (o : Outcome)
      → IsZeroRename g.script (entry a n r o) s.scene.content (effect s.scene r o).content
  pub commit : (g : Setting) → IsLegal g.script → (s : Seen) (m : Told) (c : Commit) → Commits g.script g.minimum s m c → (r : Request)
      → commit_asks g.script c ≡ Some r → (n : ℕ) (o : Outcome)
      → IsZeroRename g.script (driver_entry n r o) s.scene.content (effect s.scene r o).content
  pub clean : (g : Setting) → IsLegal g.script → (s : Seen) (m : Told) → Hold g.script g.minimum s m → (t : Clean)
      → FitsClean g.script m.cleaned t → (r : Request) → clean_asks g.script t ≡ Some r → (n : ℕ) (o : Outcome)
      → IsZeroRename g.script (driver_entry n r o) s.scene.content (effect s.scene r o).content
