-- What an operation that is described by its phases must satisfy if each of its requests may be made twice.
use Rattle.operations.specs.declared.plan.Step.{Step}
use Rattle.operations.specs.declared.plan.Step.TheVariants.{End, Next}
use Rattle.std.specs.Prelude.{ℕ, ◌<◌}

-- After the step, the next phase holds, or the answer is given.
abbrev pub Goes : {P A S : Type 0} → (P → S → Type 0) → (A → S → Type 0) → Step P A → S → Type 0
Goes holds gives (Next p) s = holds p s
Goes holds gives (End a) s = gives a s

-- After the step, fewer phases are to come.
abbrev pub Falls : {P A S : Type 0} → (P → S → ℕ) → Step P A → S → ℕ → Type 0
Falls left (Next p) s n = left p s < n
Falls left (End a) s n = Unit {0}
