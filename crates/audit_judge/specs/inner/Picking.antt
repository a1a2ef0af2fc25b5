-- Definitions beside those of `Picking` that no public contract cites.
use Rattle.audit_claims.specs.Claims.{Tags}
use Rattle.audit_judge.specs.inner.Narrowed.{lesser}
use Rattle.judging.specs.Listed.{Numbered}
use Rattle.std.specs.Prelude.{Bool, List, Option, Some, cond, ℕ, [], ◌∷◌}

-- The lesser of a number and that of an attempt, if its flag is up.
abbrev pub with_number : Bool → ℕ → Option ℕ → Option ℕ
with_number up a o = cond up (lesser o (Some a)) o

-- The least of a number and those of the attempts whose flags are up.
abbrev pub least_up : Numbered Tags → List Bool → Option ℕ → Option ℕ
least_up [] flags o = o
least_up (a ∷ attempts) [] o = o
least_up (a ∷ attempts) (flag ∷ flags) o = least_up attempts flags (with_number flag a.0 o)
