-- Definitions beside those of `AuditState` that no public contract cites.
use Rattle.audit_claims.specs.Claims.{Tags}
use Rattle.audit_judge.specs.Bench.{Bench, claim, now, opened}
use Rattle.audit_judge.specs.Reasons.{IsFirst}
use Rattle.audit_judge.specs.declared.reason.Reason.{Reason}
use Rattle.audit_laws.specs.Alike.{SameElements}
use Rattle.audit_model.specs.Recorded.{Recorded}
use Rattle.auditor.specs.AuditState.{At, AuditState, Tells}
use Rattle.path_keys.specs.Paths.{Path}
use Rattle.soundness.specs.Moments.{Moment}
use Rattle.std.specs.Prelude.{Err, List, None, Ok, Option, Result, Some, cond, false, ℕ, [], ◌++◌, ◌∷◌, ◌≡◌}
use Rattle.trace_reader.specs.Faults.{wanting}
use Rattle.trace_reader.specs.declared.fault.TraceFault.{TraceFault}

-- The audit knows what some lines say.
abbrev pub AtSome : AuditState → Type 0
AtSome h = (r : Recorded) × (moments : List (Moment Tags)) × At h r moments

-- The moments after one more line.
abbrev pub moments_after : Bench → List (Moment Tags) → List (Moment Tags)
moments_after b moments = moments ++ cond b.started (now b ∷ []) []

-- After one more line, the audit knows what that line says too.
abbrev pub GoesBy : AuditState → List (Moment Tags) → Result Recorded TraceFault → Type 0
GoesBy h moments (Ok r) = At h r (moments_after h.bench moments)
GoesBy h moments (Err fault) = ⊥

-- The line shows that readers are not safe: it changed what they see at these paths, and this is the first reason.
pub record Breaks
    (before after : AuditState) (moments : List (Moment Tags)) (r : Recorded) (changed : List (List ℕ)) (reason : Reason) : Type 0
  where
    pub tells : Tells after r
    pub paths : List (List ℕ)
    pub are : SameElements paths changed
    pub first : IsFirst (claim before.bench) (opened before.bench) moments (now after.bench) paths reason

-- One more line shows that readers are not safe.
abbrev pub BreaksBy : (before after : AuditState) → List (Moment Tags) → Result Recorded TraceFault → List (List ℕ) → Reason → Type 0
BreaksBy before after moments (Ok r) changed reason = Breaks before after moments r changed reason
BreaksBy before after moments (Err fault) changed reason = ⊥

-- The right result for one more line, by what it adds to the lines before and the paths that it changed: None if readers are still safe,
-- else a reason, or the line's fault.
abbrev pub Stepped : (before after : AuditState) → (adds : Recorded → Result Recorded TraceFault) → (changed : Path → List (List ℕ))
    → Result (Option Reason) TraceFault → Type 0
Stepped before after adds changed (Ok None) =
    (r : Recorded) (moments : List (Moment Tags)) → At before r moments → GoesBy after moments (adds r)
Stepped before after adds changed (Ok (Some reason)) =
    (r : Recorded) (moments : List (Moment Tags)) → At before r moments → BreaksBy before after moments (adds r) (changed r.dest) reason
Stepped before after adds changed (Err fault) =
    wanting fault ≡ false → (r : Recorded) (moments : List (Moment Tags)) → At before r moments → adds r ≡ Err fault
