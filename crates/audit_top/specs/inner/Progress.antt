-- Definitions beside those of `Progress` that no public contract cites.
use Rattle.audit_model.specs.Answers.{IsFaulty, IsUnsound}
use Rattle.audit_top.specs.Progress.{AreLines, OfLines}
use Rattle.audit_top.specs.declared.verdict.Step.{Step}
use Rattle.audit_top.specs.declared.verdict.Verdict.{Verdict}
use Rattle.auditor.specs.AuditState.{AuditState}
use Rattle.auditor.specs.SoFar.{IsSoFar}
use Rattle.line_input.specs.LinesOf.{lines_of}
use Rattle.std.specs.Prelude.{List, None, Option, Some, false, length, ℕ, [], ◌++◌, ◌+◌, ◌<◌, ◌∷◌, ◌≡◌, ◌≤◌, ◌⊎◌}
use Rattle.trace_reader.specs.Faults.{wanting}
use Rattle.trace_reader.specs.Reading.{MOST_BYTES}
use Rattle.trace_reader.specs.declared.fault.TraceFault.TheVariants.{TooLong}
use Rattle.audit_top.specs.declared.verdict.Step.TheVariants as step
use Rattle.audit_top.specs.declared.verdict.Verdict.TheVariants as verdict

-- The first lines of the input are these, which were read; the others are those of the unread bytes.
abbrev pub AreRead : Option (List ℕ) → List (List ℕ) → Option (List ℕ) → Type 0
AreRead None lines rest = rest ≡ None
AreRead (Some text) lines None = ⊥
AreRead (Some text) lines (Some rest) = lines_of text ≡ lines ++ lines_of rest

-- The audit has read `n` lines of the input, and knows what they say.
pub record IsAt (left : Option (List ℕ)) (known : Option AuditState) (rest : Option (List ℕ)) (n : ℕ) : Type 0 where
  pub lines : List (List ℕ)
  pub told : IsSoFar known lines
  pub read : AreRead left lines rest
  pub count : n ≡ length lines

-- The audit has read all lines, and knows what they say.
pub record IsOver (left : Option (List ℕ)) (known : Option AuditState) (n : ℕ) : Type 0 where
  pub lines : List (List ℕ)
  pub are : AreLines left lines
  pub told : IsSoFar known lines
  pub count : n ≡ length lines

-- The right result for a line. The line may be only the start of one that is too long.
abbrev pub LineTaken : (before after : Option AuditState) → (bytes : List ℕ) → Step → Type 0
LineTaken before after bytes step.More =
    (length bytes ≤ MOST_BYTES) × ((lines : List (List ℕ)) → IsSoFar before lines → IsSoFar after (lines ++ bytes ∷ []))
LineTaken before after bytes step.Over = ⊥
LineTaken before after bytes (step.Unsound reason) = (length bytes ≤ MOST_BYTES)
    × ((lines behind : List (List ℕ)) → IsSoFar before lines → IsUnsound (lines ++ bytes ∷ behind) (length lines + 1) reason)
LineTaken before after bytes (step.Faulty fault) = (wanting fault ≡ false)
    × (((MOST_BYTES < length bytes) × (fault ≡ TooLong))
    ⊎ ((length bytes ≤ MOST_BYTES)
    × ((lines behind : List (List ℕ)) → IsSoFar before lines → IsFaulty (lines ++ bytes ∷ behind) (length lines + 1) fault)))
LineTaken before after bytes step.Failed = ⊥
LineTaken before after bytes step.NoMemory = Unit {0}

-- The right result for one more line, after `n` lines.
abbrev pub StepsTo : Option (List ℕ) → ℕ → Option AuditState → Option (List ℕ) → Step → Type 0
StepsTo left n known rest step.More = IsAt left known rest (n + 1)
StepsTo left n known rest step.Over = IsOver left known n
StepsTo left n known rest (step.Unsound reason) = OfLines left (λ lines. IsUnsound lines (n + 1) reason)
StepsTo left n known rest (step.Faulty fault) = (wanting fault ≡ false) × OfLines left (λ lines. IsFaulty lines (n + 1) fault)
StepsTo left n known rest step.Failed = Unit {0}
StepsTo left n known rest step.NoMemory = Unit {0}

-- The right result for the lines of the input.
abbrev pub Judged : Option (List ℕ) → Option AuditState → Verdict → Type 0
Judged left known (verdict.Over n) = IsOver left known n
Judged left known (verdict.Unsound n reason) = OfLines left (λ lines. IsUnsound lines n reason)
Judged left known (verdict.Faulty n fault) = (wanting fault ≡ false) × OfLines left (λ lines. IsFaulty lines n fault)
Judged left known verdict.Failed = Unit {0}
Judged left known verdict.NoMemory = Unit {0}

-- This is the right result for the lines of some input.
abbrev pub JudgedSome : Option AuditState → Verdict → Type 0
JudgedSome known v = (left : Option (List ℕ)) × Judged left known v
