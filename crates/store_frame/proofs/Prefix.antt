-- Prefixes of texts, and the order of texts.
use Rattle.text_and_lists.specs.Order.{text_cmp, text_total}
use Rattle.s3_types.specs.Pages.{begins}
use Rattle.std.proofs.Common.{Bool, List, arith, false, nat_eq, refl, true, ℕ, [], ◌&&◌, ◌++◌, ◌∷◌, ◌≡◌}
use Rattle.std.proofs.lemmas.Bool.{false≢true, true≢false}
use Rattle.std.proofs.lemmas.Bool.Decides.{nat_tests}
use Rattle.std.specs.Ordering.{is_lt, nat_cmp, ordering_then}
use Rattle.std.specs.declared.cmp.Ordering.{Ordering}
use Rattle.text_and_lists.proofs.Less as less

-- True if one text is less than another.
abbrev pub lt : List ℕ → List ℕ → Bool
lt = less.lt text_cmp

pub lt_not : (a b : List ℕ) → lt a b ≡ true → lt b a ≡ false
lt_not = less.lt_not text_total

pub le_le : (a b c : List ℕ) → lt b a ≡ false → lt c b ≡ false → lt c a ≡ false
le_le = less.le_le text_total

step_up : (y w : ℕ) (r : Ordering) (b : Bool) → (b ≡ true → is_lt r ≡ true) → (nat_eq y w && b) ≡ true
    → is_lt (ordering_then (nat_cmp w y) r) ≡ true
step_up y w r b ih k = grind (arith, nat_tests)

-- A key that begins with s and a `/` is less than s and a `0`.
pub up_to_next : (s q : List ℕ) → begins (s ++ 47 ∷ []) q ≡ true → lt q (s ++ 48 ∷ []) ≡ true
up_to_next [] [] k = absurd (false≢true k)
up_to_next [] (w ∷ q) k = grind (arith, nat_tests)
up_to_next (y ∷ s) [] k = absurd (false≢true k)
up_to_next (y ∷ s) (w ∷ q) k = step_up y w (text_cmp q (s ++ 48 ∷ [])) (begins (s ++ 47 ∷ []) q) (up_to_next s q) k

step_next : (w : ℕ) (r s : Ordering) → is_lt s ≡ false → is_lt (ordering_then (nat_cmp w 47) r) ≡ false
    → is_lt (ordering_then (nat_cmp w 48) s) ≡ true → (nat_eq 47 w && true) ≡ true
step_next w r s n h g = grind (arith, nat_tests)

step_before : (y w : ℕ) (r s : Ordering) (b : Bool) → (is_lt r ≡ false → is_lt s ≡ true → b ≡ true)
    → is_lt (ordering_then (nat_cmp w y) r) ≡ false → is_lt (ordering_then (nat_cmp w y) s) ≡ true → (nat_eq y w && b) ≡ true
step_before y w r s b ih h g = grind (arith, nat_tests)

nothing_less : (q : List ℕ) → lt q [] ≡ false
nothing_less [] = refl
nothing_less (w ∷ q) = refl

-- A text from s with a `/` up to s with a `0` begins with s and a `/`.
pub before_next : (s q : List ℕ) → lt q (s ++ 47 ∷ []) ≡ false → lt q (s ++ 48 ∷ []) ≡ true → begins (s ++ 47 ∷ []) q ≡ true
before_next [] [] h g = absurd (true≢false h)
before_next [] (w ∷ q) h g = step_next w (text_cmp q []) (text_cmp q []) (nothing_less q) h g
before_next (y ∷ s) [] h g = absurd (true≢false h)
before_next (y ∷ s) (w ∷ q) h g = step_before y w (text_cmp q (s ++ 47 ∷ [])) (text_cmp q (s ++ 48 ∷ [])) (begins (s ++ 47 ∷ []) q)
    (before_next s q) h g
