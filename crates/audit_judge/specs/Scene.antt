-- The knowledge of a judge about the claim and about what readers see.
use Rattle.audit_claims.specs.Claims.{Claimed}
use Rattle.audit_claims.specs.Etags.{TagMap}
use Rattle.soundness.specs.declared.keeps.Keeps.{Keeps}
use Rattle.std.specs.Prelude.{Bool, ℕ}

-- The claim, what readers saw when the run began, what they see now, and whether the run has begun.
pub record Scene : Type 0 where
  pub keeps : Keeps
  pub tasks : ℕ
  pub claimed : Claimed
  pub opening : TagMap
  pub shown : TagMap
  pub started : Bool
