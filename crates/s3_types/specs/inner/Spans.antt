-- Definitions beside those of `Spans` that no public contract cites.
use Rattle.s3_types.specs.Fates.{is_answer}
use Rattle.s3_types.specs.declared.fates.Span.{Span}
use Rattle.std.specs.Prelude.{List, None, Option, Some, cond, false, max, nat_le, nat_lt, ℕ, [], ◌+◌, ◌∷◌, ◌≡◌, ◌≤◌}

-- From `low` on, the ranges follow one another, none is empty, and no fate is Answer.
abbrev pub AreApart : ℕ → List (ℕ × Span) → Type 0
AreApart low [] = Unit {0}
AreApart low (e ∷ es) = (low ≤ e.1.first) × (e.1.first ≤ e.0) × (is_answer e.1.fate ≡ false) × AreApart (e.0 + 1) es

-- The first range that ends at n or later.
abbrev pub from_on : ℕ → List (ℕ × Span) → Option (ℕ × Span)
from_on n [] = None
from_on n (e ∷ es) = cond (nat_lt e.0 n) (from_on n es) (Some e)

-- The least send from `first` to `last` that is in that range.
abbrev pub first_in : ℕ → ℕ → Option (ℕ × Span) → Option ℕ
first_in first last (Some e) = cond (nat_le e.1.first last) (Some (max e.1.first first)) None
first_in first last None = None
