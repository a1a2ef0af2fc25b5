-- The first elements and the rest of lists, of pairs and of numbered lists.
use Rattle.std.proofs.Common.{List, ap, arith, drop, inl, inr, length, min, refl, suc, sym, take, zero, ℕ, [], ◌++◌, ◌+◌, ◌<◌, ◌∙◌, ◌∷◌}
use Rattle.std.proofs.Common.{◌≡◌, ◌≤◌, ◌⊎◌}
use Rattle.std.proofs.lemmas.Bool.{cases_lt}
use Rattle.std.proofs.lemmas.List.{drop_all, take_all}
use Rattle.std.specs.List.{enumerate_from, zip}

-- Pairs of the first k elements are the first k pairs.
pub zip_take : {A B : Type 0} (k : ℕ) (xs : List A) (ys : List B) → zip (take k xs) (take k ys) ≡ take k (zip xs ys)
zip_take zero xs ys = refl
zip_take (suc k) [] ys = refl
zip_take (suc k) (x ∷ xs) [] = refl
zip_take (suc k) (x ∷ xs) (y ∷ ys) = ap (λ l. (x, y) ∷ l) (zip_take k xs ys)

zip_none : {A B : Type 0} (xs : List A) → zip {K = A} {X = B} xs [] ≡ []
zip_none [] = refl
zip_none (x ∷ xs) = refl

-- Pairs of the rests are the rest of the pairs.
pub zip_drop : {A B : Type 0} (k : ℕ) (xs : List A) (ys : List B) → zip (drop k xs) (drop k ys) ≡ drop k (zip xs ys)
zip_drop zero xs ys = refl
zip_drop (suc k) [] ys = refl
zip_drop (suc k) (x ∷ xs) [] = zip_none (drop k xs)
zip_drop (suc k) (x ∷ xs) (y ∷ ys) = zip_drop k xs ys

-- There are as many pairs as elements in the shorter list.
pub length_zip : {A B : Type 0} (xs : List A) (ys : List B) → length (zip xs ys) ≡ min (length xs) (length ys)
length_zip [] ys = let e : 0 ≡ min 0 (length ys) = omega arith in e
length_zip (x ∷ xs) [] = let e : 0 ≡ min (suc (length xs)) 0 = omega arith in e
length_zip (x ∷ xs) (y ∷ ys) =
    let h = length_zip xs ys in
    let e : suc (length (zip xs ys)) ≡ min (suc (length xs)) (suc (length ys)) = omega (arith, h) in e

-- Two first parts are the same, as a list has no more than all its elements.
pub take_same : {A : Type 0} (xs : List A) (k n : ℕ) → k ≡ min n (length xs) → take k xs ≡ take n xs
take_same xs k n h = by (cases_lt (length xs) n)
  where
    by : (length xs < n) ⊎ (n ≤ length xs) → take k xs ≡ take n xs
    by (inl lt) =
        let far : length xs ≤ k = omega arith in
        let farther : length xs ≤ n = omega arith in
        take_all k xs far ∙ sym (take_all n xs farther)
    by (inr le) =
        let e : k ≡ n = omega arith in
        ap (λ m. take m xs) e

-- Two rests are the same.
pub drop_same : {A : Type 0} (xs : List A) (k n : ℕ) → min k (length xs) ≡ min n (length xs) → drop k xs ≡ drop n xs
drop_same xs k n h = by (cases_lt k (length xs))
  where
    by : (k < length xs) ⊎ (length xs ≤ k) → drop k xs ≡ drop n xs
    by (inl lt) =
        let e : k ≡ n = omega arith in
        ap (λ m. drop m xs) e
    by (inr le) =
        let far : length xs ≤ n = omega arith in
        drop_all k xs le ∙ sym (drop_all n xs far)

-- The numbers go on after a first part.
pub numbered_on : {A : Type 0} (n m : ℕ) (xs ys : List A) → m ≡ n + length xs
    → enumerate_from n (xs ++ ys) ≡ enumerate_from n xs ++ enumerate_from m ys
numbered_on n m [] ys h =
    let e : n ≡ m = omega arith in
    ap (λ k. enumerate_from k ys) e
numbered_on n m (x ∷ xs) ys h =
    let e : m ≡ n + 1 + length xs = omega arith in
    ap (λ l. (n, x) ∷ l) (numbered_on (n + 1) m xs ys e)
