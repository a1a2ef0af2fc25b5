-- The attempt of a task that a judge picks.
use Rattle.audit_claims.specs.Claims.{Tags}
use Rattle.audit_judge.specs.Bench.{Bench, claim, opened}
use Rattle.judging.specs.Judging.{StillExplains}
use Rattle.judging.specs.Listed.{numbered, of_task}
use Rattle.soundness.specs.Moments.{Moment}
use Rattle.std.specs.List.{All, Any}
use Rattle.std.specs.Prelude.{List, ℕ, ◌≡◌, ◌≤◌}

-- The attempt explains all moments.
abbrev pub ExplainsAll : Bench → List (Moment Tags) → (task : ℕ) → ℕ × List (List ℕ × Tags) → Type 0
ExplainsAll b moments t a = StillExplains (claim b) (opened b) moments (of_task t b.claimed.listed) a.1

-- The least number of an attempt of the task that explains all moments.
pub record IsPick (b : Bench) (moments : List (Moment Tags)) (t a : ℕ) : Type 0 where
  pub explains : Any (λ x. (x.0 ≡ a) × ExplainsAll b moments t x) (numbered t b.claimed.listed)
  pub least : All (λ x. ExplainsAll b moments t x → a ≤ x.0) (numbered t b.claimed.listed)

-- No attempt of the task explains all moments.
abbrev pub NoPick : Bench → List (Moment Tags) → ℕ → Type 0
NoPick b moments t = All (λ x. ExplainsAll b moments t x → ⊥) (numbered t b.claimed.listed)
