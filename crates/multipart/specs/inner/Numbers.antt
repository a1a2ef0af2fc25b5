-- The numbers of parts.
use Rattle.s3_types.specs.Multipart.{is_part_number}
use Rattle.s3_types.specs.Store.{Parts}
use Rattle.std.specs.Prelude.{Bool, List, false, is_some, nat_eq, suc, true, zero, ℕ, [], ◌<◌, ◌∷◌, ◌≡◌, ◌≤◌}
use Rattle.std.specs.FinMap as fin

-- Each part has a number from 1 to 10,000.
abbrev pub AreNumbered : Parts → Type 0
AreNumbered m = (n : ℕ) → is_some (fin.get m n) ≡ true → is_part_number n ≡ true

-- The numbers of the entries before this place are below n, and the number at the place, if there is one, is not.
abbrev pub IsPlace : {X : Type 0} → ℕ → List (ℕ × X) → ℕ → Type 0
IsPlace n [] zero = Unit {0}
IsPlace n [] (suc i) = ⊥
IsPlace n (e ∷ es) zero = n ≤ e.0
IsPlace n (e ∷ es) (suc i) = (e.0 < n) × IsPlace n es i

-- True if there is an entry at this place, and its number is n.
abbrev pub is_number_at : {X : Type 0} → List (ℕ × X) → ℕ → ℕ → Bool
is_number_at [] i n = false
is_number_at (e ∷ es) zero n = nat_eq e.0 n
is_number_at (e ∷ es) (suc i) n = is_number_at es i n
