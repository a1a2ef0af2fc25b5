-- Things that move step by step, and what the steps of a world keep.
use Rattle.s3_types.specs.declared.journal.Entry.{Entry}
use Rattle.std.specs.List.{AllByRecursion}
use Rattle.std.specs.Prelude.{Bool, List, false, true, ℕ, ◌++◌, ◌+◌, ◌≡◌}

-- The later entries are the earlier ones and these, which all belong to one event.
pub record Adds (es fs part : List Entry) : Type 0 where
  pub journal : fs ≡ es ++ part
  pub number : ℕ
  pub event : AllByRecursion (λ e. e.event ≡ number) part

-- True: a step was played, and one less is left. False: no step is left, and nothing has changed.
abbrev pub Stepped : {M : Type 0} → (M → List Entry) → (M → ℕ) → M → M → Bool → Type 0
Stepped sent left old new true = (part : List Entry) × Adds (sent old) (sent new) part × (left old ≡ left new + 1)
Stepped sent left old new false = (left old ≡ 0) × (new ≡ old)

-- ---- a world

-- ---- a world of two jobs
