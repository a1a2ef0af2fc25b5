-- Members of a list, and keys that rise.
use Rattle.std.specs.Prelude.{◌≡◌, ◌⊎◌, ℕ, true, List, [], ◌∷◌}
use Rattle.std.specs.Ordering.{is_lt}
use Rattle.text_and_lists.specs.Order.{text_cmp}

-- x is a member of the list.
abbrev pub IsIn : {X : Type 0} → X → List X → Type 0
IsIn x [] = ⊥
IsIn x (y ∷ ys) = (x ≡ y) ⊎ IsIn x ys

-- The keys rise, and are greater than the text l.
abbrev pub RisesFrom : List ℕ → List (List ℕ) → Type 0
RisesFrom l [] = Unit {0}
RisesFrom l (k ∷ ks) = (is_lt (text_cmp l k) ≡ true) × RisesFrom k ks

-- The last of the keys, or l if there are none.
abbrev pub last_from : List ℕ → List (List ℕ) → List ℕ
last_from l [] = l
last_from l (k ∷ ks) = last_from k ks
