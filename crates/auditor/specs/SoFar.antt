-- The knowledge of an audit, by the lines that it has taken.
use Rattle.audit_claims.specs.Claims.{Tags}
use Rattle.audit_judge.specs.declared.reason.Reason.{Reason}
use Rattle.audit_laws.specs.Alike.{AllAlike}
use Rattle.audit_model.specs.Answers.{IsFaulty, IsUnsound}
use Rattle.audit_model.specs.Moments.{moments, said_by}
use Rattle.audit_model.specs.Recorded.{Recorded, after}
use Rattle.auditor.specs.AuditState.{At, AuditState}
use Rattle.soundness.specs.Moments.{Moment}
use Rattle.std.specs.Prelude.{Err, List, None, Ok, Option, Result, Some, false, length, ℕ, [], ◌++◌, ◌+◌, ◌∷◌, ◌≡◌}
use Rattle.trace_reader.specs.Faults.{wanting}
use Rattle.trace_reader.specs.declared.fault.TraceFault.{TraceFault}

-- The audit knows what these lines say, and the judge knows the moments after them.
pub record IsTold (h : AuditState) (lines : List (List ℕ)) : Type 0 where
  pub said : Recorded
  pub said_is : said_by lines None ≡ Ok (Some said)
  pub judged : List (Moment Tags)
  pub alike : AllAlike judged (moments lines None)
  pub at : At h said judged

-- The audit knows what some lines say.
abbrev pub IsToldSome : AuditState → Type 0
IsToldSome h = (lines : List (List ℕ)) × IsTold h lines

-- No line was taken yet, or the audit knows what these lines say.
abbrev pub IsSoFar : Option AuditState → List (List ℕ) → Type 0
IsSoFar None lines = lines ≡ []
IsSoFar (Some h) lines = IsTold h lines

-- The auditor knows what some lines say.
abbrev pub IsOfSome : Option AuditState → Type 0
IsOfSome known = (lines : List (List ℕ)) × IsSoFar known lines

-- The right result for one more line: None if it has no fault and readers are still safe, else a reason why they are not, or the line's
-- fault. Other lines may follow.
abbrev pub Taken : (before after : Option AuditState) → (bytes : List ℕ) → Result (Option Reason) TraceFault → Type 0
Taken before after bytes (Ok None) = (lines : List (List ℕ)) → IsSoFar before lines → IsSoFar after (lines ++ bytes ∷ [])
Taken before after bytes (Ok (Some reason)) =
    (lines behind : List (List ℕ)) → IsSoFar before lines → IsUnsound (lines ++ bytes ∷ behind) (length lines + 1) reason
Taken before after bytes (Err fault) = wanting fault ≡ false
    → (lines behind : List (List ℕ)) → IsSoFar before lines → IsFaulty (lines ++ bytes ∷ behind) (length lines + 1) fault
