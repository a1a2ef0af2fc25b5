-- Texts that rise.
use Rattle.text_and_lists.proofs.Less.{less_of, lt, lt_trans}
use Rattle.text_and_lists.specs.Members.{RisesFrom}
use Rattle.text_and_lists.specs.Order.{text_cmp, text_total}
use Rattle.std.specs.List.{AllByRecursion}
use Rattle.std.specs.List.Sorted.{IsStrictlySortedBy}
use Rattle.std.specs.Prelude.{List, true, ℕ, [], ◌∷◌, ◌≡◌}
use Rattle.std.specs.declared.cmp.Ordering.TheVariants.{Less}

-- Keys that are greater than a text and rise are greater than a lower text too.
pub lower : (l k : List ℕ) (ks : List (List ℕ)) → lt text_cmp l k ≡ true → RisesFrom k ks → RisesFrom l ks
lower l k [] h g = tt
lower l k (q ∷ ks) h g = (lt_trans text_total l k q h g.0, g.1)

less_all : (l : List ℕ) (ks : List (List ℕ)) → RisesFrom l ks → AllByRecursion (λ k. text_cmp l k ≡ Less) ks
less_all l [] h = tt
less_all l (k ∷ ks) h = (less_of (text_cmp l k) h.0, less_all l ks (lower l k ks h.0 h.1))

-- Keys that rise are sorted.
pub sorted : (l : List ℕ) (ks : List (List ℕ)) → RisesFrom l ks → IsStrictlySortedBy text_cmp ks
unfolding IsStrictlySortedBy
sorted l [] h = tt
sorted l (k ∷ ks) h = (less_all k ks h.1, sorted k ks h.1)
