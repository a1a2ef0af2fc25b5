-- The first number that passes a test.
use Rattle.job_protocol.specs.Outputs.{first_where}
use Rattle.std.proofs.Common.{Bool, None, Some, ap, arith, cond, false, inl, inr, not, refl, suc, true, zero, ℕ, ◌+◌, ◌<◌, ◌∙◌, ◌≡◌, ◌≤◌}
use Rattle.std.proofs.Common.{◌⊎◌}

least_or_later : (b t : ℕ) → b ≤ t → (b ≡ t) ⊎ (b + 1 ≤ t)
least_or_later b t h = grind arith

found_from : (test : ℕ → Bool) (b n t : ℕ) → b ≤ t → t < b + n → ((k : ℕ) → b ≤ k → k < t → test k ≡ false) → test t ≡ true
    → first_where test b n ≡ Some t
found_from test b zero t low high before at = absurd (omega arith)
found_from test b (suc n) t low high before at = elim (least_or_later b t low) [
  | inl e ↦ ap (λ v. cond v (Some b) (first_where test (b + 1) n)) (ap test e ∙ at) ∙ ap Some e
  | inr l ↦ ap (λ v. cond v (Some b) (first_where test (b + 1) n)) (before b (omega arith) (omega arith)) ∙ found_from test (b + 1) n t l
      (omega arith) (λ k i j. before k (omega arith) j) at
]

none_from : (test : ℕ → Bool) (b n : ℕ) → ((k : ℕ) → b ≤ k → k < b + n → test k ≡ false) → first_where test b n ≡ None
none_from test b zero h = refl
none_from test b (suc n) h = ap (λ v. cond v (Some b) (first_where test (b + 1) n)) (h b (omega arith) (omega arith)) ∙ none_from test
    (b + 1) n (λ k i j. h k (omega arith) (omega arith))

-- The first number that fails a test.
pub first_that_fails : (test : ℕ → Bool) (n t : ℕ) → t < n → ((k : ℕ) → k < t → test k ≡ true) → test t ≡ false
    → first_where (λ k. not (test k)) 0 n ≡ Some t
first_that_fails test n t high before at = found_from (λ k. not (test k)) 0 n t (omega arith) (omega arith) (λ k i j. ap not (before k j))
    (ap not at)

pub none_fails : (test : ℕ → Bool) (n : ℕ) → ((k : ℕ) → k < n → test k ≡ true) → first_where (λ k. not (test k)) 0 n ≡ None
none_fails test n h = none_from (λ k. not (test k)) 0 n (λ k i j. ap not (h k (omega arith)))
