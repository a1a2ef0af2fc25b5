-- The knowledge of a judge at a point of a run.
use Rattle.std.specs.Prelude.{ℕ, List, Bool}
use Rattle.std.specs.FinMap as fin
use Rattle.text_and_lists.specs.Order.{text_cmp}
use Rattle.soundness.specs.Claims.{Claim}
use Rattle.soundness.specs.Moments.{Moment, Shown}
use Rattle.soundness.specs.declared.keeps.Keeps.{Keeps}
use Rattle.soundness.specs.declared.marker.Marker.{Marker}
use Rattle.judging.specs.Listed.{claim_of}
use Rattle.audit_claims.specs.Claims.{Claimed, Tags}

-- Files by their paths.
abbrev pub Paths : Type 0
Paths = fin.FinMap text_cmp Tags

-- The knowledge of a judge.
pub record Bench : Type 0 where
  -- The claim of the job.
  pub keeps : Keeps
  pub tasks : ℕ
  pub claimed : Claimed
  -- What readers saw when the run began, and what they see now.
  pub opening : Paths
  pub shown : Paths
  -- Whether the commit has begun, and which success marker exists.
  pub begun : Bool
  pub marker : Marker
  -- Whether the run has begun, so that no more attempts, files and opening files can come.
  pub started : Bool
  -- Whether a moment needed a choice.
  pub needed : Bool
  -- For each listed task and each of its attempts, in their order: whether the attempt explains all moments so far.
  pub candidates : List (List Bool)

-- The claim.
abbrev pub claim : Bench → Claim Tags
claim b = claim_of b.keeps b.tasks b.claimed.listed

-- What readers saw when the run began.
abbrev pub opened : Bench → Shown Tags
opened b p = fin.get b.opening p

-- The moment as it is now.
abbrev pub now : Bench → Moment Tags
now b = record { begun = b.begun; marker = b.marker; shown = λ p. fin.get b.shown p }
