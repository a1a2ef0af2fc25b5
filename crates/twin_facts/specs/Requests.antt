-- The requests that a side sends: those of its attempts, and those of its driver's set-up, check, commit, and abort or clean.
use Rattle.job_invariant.specs.Emptying.{SetsUp}
use Rattle.job_invariant.specs.Facts.{IsAttempt}
use Rattle.job_invariant.specs.FiledLaws.{Commits}
use Rattle.job_invariant.specs.Fits.{Fits}
use Rattle.job_invariant.specs.Spares.{FitsSparing}
use Rattle.job_invariant.specs.Told.{Told, known}
use Rattle.job_model.specs.Attempts.{Who, actor_of}
use Rattle.job_protocol.specs.JobCommits.{Commit, commit_asks}
use Rattle.job_protocol.specs.Operations.{Operation, Setting, asks}
use Rattle.job_protocol.specs.Rechecks.{Check, check_asks}
use Rattle.job_protocol.specs.Seen.{Seen}
use Rattle.job_protocol.specs.Setup.{Setup, setup_asks}
use Rattle.job_protocol.specs.Sparing.{Sparing, sparing_asks}
use Rattle.s3_types.specs.declared.request.Actor.{Actor}
use Rattle.s3_types.specs.declared.request.Actor.TheVariants.{Driver}
use Rattle.s3_types.specs.declared.request.Request.{Request}
use Rattle.std.specs.Prelude.{Some, ◌≡◌}

-- A request that an actor of the job may send while the job's facts hold.
pub data IsSentBy (g : Setting) (s : Seen) (m : Told) : Actor → Request → Type 0 where
  by_attempt : (a : Who) (op : Operation) (r : Request) → IsAttempt g.script a → Fits g.script g.minimum a m op
      → asks g a (known m a) op ≡ Some r → IsSentBy g s m (actor_of a) r
  by_commit : (c : Commit) (r : Request) → Commits g.script g.minimum s m c → commit_asks g.script c ≡ Some r → IsSentBy g s m Driver r
  by_check : (c : Check) (r : Request) → check_asks g.script c ≡ Some r → IsSentBy g s m Driver r
  by_clean : (c : Sparing) (r : Request) → FitsSparing g.script m.drawn c → sparing_asks g.script c ≡ Some r → IsSentBy g s m Driver r

-- A request that the driver's set-up may send, before the facts hold.
abbrev pub SetsUpBy : Setting → Seen → Request → Type 0
SetsUpBy g s r = (t : Setup) × SetsUp g.script s.scene.content t × (setup_asks g.script t ≡ Some r)
