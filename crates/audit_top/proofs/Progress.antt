-- How far an audit comes with one more line.
use Rattle.std.proofs.Common.{Bool, Err, List, None, Ok, Option, Some, [], ap, arith, false, inl, inr, length, nat_le, refl, rules, subst}
use Rattle.std.proofs.Common.{sym, take}
use Rattle.std.proofs.Common.{true, ℕ, ◌+◌, ◌++◌, ◌<◌, ◌≤◌, ◌∙◌, ◌∷◌, ◌≡◌, ◌⊎◌}
use Rattle.std.proofs.lemmas.List.{append-nil, append_assoc, length-append, length-take}
use Rattle.audit_model.specs.Answers.{IsFaulty, IsUnsound}
use Rattle.audit_model.specs.Recorded.{Recorded, after, read_after, stage_of}
use Rattle.audit_top.specs.Progress.{AreLines, OfLines}
use Rattle.audit_top.specs.inner.Progress.{AreRead, IsAt, IsOver, LineTaken, StepsTo}
use Rattle.audit_top.specs.declared.verdict.Step.{Step}
use Rattle.audit_top.specs.declared.verdict.Step.TheVariants as step
use Rattle.auditor.proofs.Taking.{faulty, faulty_first}
use Rattle.auditor.specs.AuditState.{AuditState}
use Rattle.auditor.specs.SoFar.{IsOfSome, IsSoFar}
use Rattle.text_and_lists.specs.Reading.{check, ◌>>=◌}
use Rattle.line_input.proofs.FirstLines.{first_of_lines, no_lines}
use Rattle.line_input.specs.LinesOf.{behind_line, first_line, lines_of}
use Rattle.line_input.specs.Reading.{Gives, IsCut, IsWhole}
use Rattle.trace_reader.specs.Faults.{wanting}
use Rattle.trace_reader.specs.Reading.{MOST_BYTES, line_of}
use Rattle.trace_reader.specs.declared.fault.TraceFault.{TraceFault}
use Rattle.trace_reader.specs.declared.fault.TraceFault.TheVariants.{TooLong}
use Rattle.trace_reader.specs.declared.stage.TraceStage.{TraceStage}

-- ---- a line that is too long

over : (n most : ℕ) → most < n → nat_le n most ≡ false
over n most less = grind (arith, rules)

long_line : (stage : TraceStage) (bytes : List ℕ) → MOST_BYTES < length bytes → line_of stage bytes ≡ Err TooLong
unfolding line_of
long_line stage bytes long = let e : nat_le (length bytes) MOST_BYTES ≡ false = over (length bytes) MOST_BYTES long in rw e refl

pub too_long : (known : Option AuditState) (lines behind : List (List ℕ)) (bytes : List ℕ) → IsSoFar known lines → MOST_BYTES < length bytes
    → IsFaulty (lines ++ bytes ∷ behind) (length lines + 1) TooLong
too_long None lines behind bytes none long =
    faulty_first lines behind bytes TooLong none (ap (λ x. x >>= after None) (long_line (stage_of None) bytes long))
too_long (Some h) lines behind bytes t long =
    faulty h lines behind bytes TooLong t (ap (λ x. x >>= after (Some t.said)) (long_line (stage_of (Some t.said)) bytes long))

-- ---- an input that tells its bytes

-- The lines that were read, the next one, and those after it.
all_lines : (text rest : List ℕ) (lines : List (List ℕ)) → lines_of text ≡ lines ++ lines_of rest → 0 < length rest
    → lines ++ first_line rest ∷ lines_of (behind_line rest) ≡ lines_of text
all_lines text rest lines e some = ap (λ l. lines ++ l) (sym (first_of_lines rest some)) ∙ sym e

more_lines : (text rest : List ℕ) (lines : List (List ℕ)) (line : List ℕ) → lines_of text ≡ lines ++ lines_of rest → 0 < length rest
    → line ≡ first_line rest → lines_of text ≡ (lines ++ line ∷ []) ++ lines_of (behind_line rest)
more_lines text rest lines line e some is =
    sym (all_lines text rest lines e some) ∙ ap (λ (l : List ℕ). lines ++ l ∷ lines_of (behind_line rest)) (sym is)
    ∙ sym (append_assoc lines (line ∷ []) (lines_of (behind_line rest)))

-- ---- one more line

cut_long : (most : ℕ) (text line : List ℕ) → IsCut most text line → most < length (first_line text)
cut_long most text line c = omega (arith, c.long, ap length c.front, length-take (length line) (first_line text))

too_short : (n most : ℕ) → most < n → n ≤ most → ⊥
too_short n most less few = omega (arith, less, few)

-- A line of an input that tells its bytes.
told_step : (text rest : List ℕ) (o n : Option AuditState) (after : Option (List ℕ)) (line : List ℕ) (s : Step) (lines : List (List ℕ))
    → IsSoFar o lines → lines_of text ≡ lines ++ lines_of rest → 0 < length rest → IsWhole rest line after ⊎ IsCut MOST_BYTES rest line
    → LineTaken o n line s → StepsTo (Some text) (length lines) n after s
told_step text rest o n after line step.More lines told e some (inl w) taken = record {
  lines = lines ++ line ∷ [];
  told = taken.1 lines told;
  read = subst (AreRead (Some text) (lines ++ line ∷ [])) (sym w.behind) (more_lines text rest lines line e some w.first);
  count = sym (length-append lines (line ∷ []));
}
told_step text rest o n after line step.More lines told e some (inr c) taken = absurd (too_short (length line) MOST_BYTES c.long taken.0)
told_step text rest o n after line step.Over lines told e some g taken = absurd taken
told_step text rest o n after line (step.Unsound reason) lines told e some (inl w) taken = (
  lines ++ line ∷ lines_of (behind_line rest),
  ap (λ (l : List ℕ). lines ++ l ∷ lines_of (behind_line rest)) w.first ∙ all_lines text rest lines e some,
  taken.1 lines (lines_of (behind_line rest)) told,
)
told_step text rest o n after line (step.Unsound reason) lines told e some (inr c) taken =
    absurd (too_short (length line) MOST_BYTES c.long taken.0)
told_step text rest o n after line (step.Faulty fault) lines told e some g taken = (taken.0, by g taken.1)
  where
    long : MOST_BYTES < length (first_line rest) → fault ≡ TooLong
        → OfLines (Some text) (λ ls. IsFaulty ls (length lines + 1) fault)
    long more is = (
      lines ++ first_line rest ∷ lines_of (behind_line rest),
      all_lines text rest lines e some,
      subst (λ f. IsFaulty (lines ++ first_line rest ∷ lines_of (behind_line rest)) (length lines + 1) f) (sym is)
          (too_long o lines (lines_of (behind_line rest)) (first_line rest) told more),
    )

    by : IsWhole rest line after ⊎ IsCut MOST_BYTES rest line
        → ((MOST_BYTES < length line) × (fault ≡ TooLong))
        ⊎ ((length line ≤ MOST_BYTES)
        × ((ls behind : List (List ℕ)) → IsSoFar o ls → IsFaulty (ls ++ line ∷ behind) (length ls + 1) fault))
        → OfLines (Some text) (λ ls. IsFaulty ls (length lines + 1) fault)
    by (inl w) (inl h) = long (subst (λ (l : List ℕ). MOST_BYTES < length l) w.first h.0) h.1
    by (inr c) (inl h) = long (cut_long MOST_BYTES rest line c) h.1
    by (inl w) (inr h) = (
      lines ++ line ∷ lines_of (behind_line rest),
      ap (λ (l : List ℕ). lines ++ l ∷ lines_of (behind_line rest)) w.first ∙ all_lines text rest lines e some,
      h.1 lines (lines_of (behind_line rest)) told,
    )
    by (inr c) (inr h) = absurd (too_short (length line) MOST_BYTES c.long h.0)
told_step text rest o n after line step.Failed lines told e some g taken = absurd taken
told_step text rest o n after line step.NoMemory lines told e some g taken = tt

-- A line of an input that does not tell its bytes.
untold_step : (o n : Option AuditState) (after : Option (List ℕ)) (line : List ℕ) (s : Step) (lines : List (List ℕ)) → IsSoFar o lines
    → after ≡ None → LineTaken o n line s → StepsTo None (length lines) n after s
untold_step o n after line step.More lines told none taken = record {
  lines = lines ++ line ∷ [];
  told = taken.1 lines told;
  read = none;
  count = sym (length-append lines (line ∷ []));
}
untold_step o n after line step.Over lines told none taken = absurd taken
untold_step o n after line (step.Unsound reason) lines told none taken = (lines ++ line ∷ [], tt, taken.1 lines [] told)
untold_step o n after line (step.Faulty fault) lines told none taken = (taken.0, by taken.1)
  where
    by : ((MOST_BYTES < length line) × (fault ≡ TooLong))
        ⊎ ((length line ≤ MOST_BYTES)
        × ((ls behind : List (List ℕ)) → IsSoFar o ls → IsFaulty (ls ++ line ∷ behind) (length ls + 1) fault))
        → OfLines None (λ ls. IsFaulty ls (length lines + 1) fault)
    by (inl h) = (
      lines ++ line ∷ [],
      tt,
      subst (λ f. IsFaulty (lines ++ line ∷ []) (length lines + 1) f) (sym h.1) (too_long o lines [] line told h.0),
    )
    by (inr h) = (lines ++ line ∷ [], tt, h.1 lines [] told)
untold_step o n after line step.Failed lines told none taken = absurd taken
untold_step o n after line step.NoMemory lines told none taken = tt

-- One more line.
pub next_step : (left : Option (List ℕ)) (o n : Option AuditState) (rest after : Option (List ℕ)) (line : List ℕ) (s : Step) (count : ℕ)
    → IsAt left o rest count → Gives true MOST_BYTES rest line after → LineTaken o n line s → StepsTo left count n after s
next_step left o n rest after line s count at gives taken =
    subst (λ k. StepsTo left k n after s) (sym at.count) (by left rest at.read gives)
  where
    by : (l r : Option (List ℕ)) → AreRead l at.lines r → Gives true MOST_BYTES r line after → StepsTo l (length at.lines) n after s
    by None r read g = untold_step o n after line s at.lines at.told (subst (λ x. Gives true MOST_BYTES x line after) read g) taken
    by (Some text) None read g = absurd read
    by (Some text) (Some bytes) read g = told_step text bytes o n after line s at.lines at.told read g.0 g.1 taken

-- The end of the input.
pub over_step : (left : Option (List ℕ)) (known : Option AuditState) (rest after : Option (List ℕ)) (line : List ℕ) (count : ℕ)
    → IsAt left known rest count → Gives false MOST_BYTES rest line after → IsOver left known count
over_step left known rest after line count at gives =
    record { lines = at.lines; are = by left rest at.read gives; told = at.told; count = at.count }
  where
    by : (l r : Option (List ℕ)) → AreRead l at.lines r → Gives false MOST_BYTES r line after → AreLines l at.lines
    by None r read g = tt
    by (Some text) None read g = absurd read
    by (Some text) (Some bytes) read g =
        sym (read ∙ ap (λ (b : List ℕ). at.lines ++ lines_of b) g.0 ∙ ap (λ l. at.lines ++ l) no_lines ∙ append-nil at.lines)

-- At the beginning nothing was read.
pub begun : (left : Option (List ℕ)) → IsAt left None left 0
begun left = record { lines = []; told = refl; read = by left; count = refl }
  where
    by : (l : Option (List ℕ)) → AreRead l [] l
    by None = refl
    by (Some text) = refl
