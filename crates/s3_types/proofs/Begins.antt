-- The order of texts, and which texts begin with which.
use Rattle.text_and_lists.proofs.Less.{lt}
use Rattle.text_and_lists.specs.Order.{text_cmp}
use Rattle.s3_types.specs.Pages.{begins}
use Rattle.std.proofs.Common.{Bool, List, ap, arith, false, nat_eq, refl, true, ℕ, [], ◌&&◌, ◌∷◌, ◌≡◌}
use Rattle.std.proofs.lemmas.Bool.{false≢true, true≢false}
use Rattle.std.proofs.lemmas.Bool.Decides.{nat_tests}
use Rattle.std.specs.List.{starts_with}
use Rattle.std.specs.Ordering.{is_lt, nat_cmp, ordering_then}
use Rattle.std.specs.declared.cmp.Ordering.{Ordering}

pub begins_is : (p q : List ℕ) → starts_with nat_eq q p ≡ begins p q
begins_is [] q = refl
begins_is (x ∷ p) [] = refl
begins_is (x ∷ p) (y ∷ q) = ap (λ b. nat_eq x y && b) (begins_is p q)

step_between : (y z w : ℕ) (r s : Ordering) (b c : Bool) → (is_lt r ≡ false → is_lt s ≡ false → b ≡ true → c ≡ true)
    → is_lt (ordering_then (nat_cmp z y) r) ≡ false → is_lt (ordering_then (nat_cmp w z) s) ≡ false → (nat_eq y w && b) ≡ true
    → (nat_eq y z && c) ≡ true
step_between y z w r s b c ih h g k = grind (arith, nat_tests)

-- A text between t and a key that begins with t begins with t too.
pub between : (t x q : List ℕ) → lt text_cmp x t ≡ false → lt text_cmp q x ≡ false → begins t q ≡ true → begins t x ≡ true
between [] x q h g k = refl
between (y ∷ t) [] q h g k = absurd (true≢false h)
between (y ∷ t) (z ∷ x) [] h g k = absurd (false≢true k)
between (y ∷ t) (z ∷ x) (w ∷ q) h g k = step_between y z w (text_cmp x t) (text_cmp q x) (begins t q) (begins t x) (between t x q) h g k

step_from : (y w : ℕ) (r : Ordering) (b : Bool) → (b ≡ true → is_lt r ≡ false) → (nat_eq y w && b) ≡ true
    → is_lt (ordering_then (nat_cmp w y) r) ≡ false
step_from y w r b ih k = grind (arith, nat_tests)

-- A key is not less than a text with which it begins.
pub from_prefix : (t q : List ℕ) → begins t q ≡ true → lt text_cmp q t ≡ false
from_prefix [] [] k = refl
from_prefix [] (w ∷ q) k = refl
from_prefix (y ∷ t) [] k = absurd (false≢true k)
from_prefix (y ∷ t) (w ∷ q) k = step_from y w (text_cmp q t) (begins t q) (from_prefix t q) k
