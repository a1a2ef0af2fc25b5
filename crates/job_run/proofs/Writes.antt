-- A list in which one element is written.
use Rattle.std.proofs.Common.{◌≡◌, ℕ, zero, suc, ◌<◌, List, [], ◌∷◌, length, slice_get, slice_set, Some, refl, ap, ◌∙◌, arith}

pub set_here : {X : Type 0} (xs : List X) (i : ℕ) (w : X) → i < length xs → slice_get (slice_set xs i w) i ≡ Some w
set_here [] i w h = absurd (omega arith)
set_here (x ∷ xs) zero w h = refl
set_here (x ∷ xs) (suc i) w h = set_here xs i w (omega arith)

pub set_so : {X : Type 0} (xs : List X) (i : ℕ) (w v : X) → i < length xs → w ≡ v → slice_get (slice_set xs i w) i ≡ Some v
set_so xs i w v h e = set_here xs i w h ∙ ap Some e

pub set_other : {X : Type 0} (xs : List X) (i q : ℕ) (w : X) → (q ≡ i → ⊥) → slice_get (slice_set xs i w) q ≡ slice_get xs q
set_other [] zero q w ne = refl
set_other [] (suc i) q w ne = refl
set_other (x ∷ xs) zero zero w ne = absurd (ne refl)
set_other (x ∷ xs) zero (suc q) w ne = refl
set_other (x ∷ xs) (suc i) zero w ne = refl
set_other (x ∷ xs) (suc i) (suc q) w ne = set_other xs i q w (λ e. ne (ap (λ (n : ℕ). suc n) e))
