-- Elements of a list to which more is appended.
use Rattle.std.proofs.Common.{List, arith, length, refl, slice_get, suc, zero, ℕ, [], ◌++◌, ◌<◌, ◌∷◌, ◌≡◌}

pub slice_front : {X : Type 0} (xs ys : List X) (n : ℕ) → n < length xs → slice_get (xs ++ ys) n ≡ slice_get xs n
slice_front [] ys n l = absurd (omega arith)
slice_front (x ∷ xs) ys zero l = refl
slice_front (x ∷ xs) ys (suc n) l = slice_front xs ys n (omega arith)
