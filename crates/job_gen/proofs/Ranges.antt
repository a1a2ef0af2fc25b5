-- The numbers below a number, and one more of them.
use Rattle.job_gen.specs.Made.{below}
use Rattle.std.proofs.Common.{Bool, List, ap, append-nil, append_assoc, arith, false, filter, map, refl, suc, sym, true, zero, ℕ, [], ◌++◌}
use Rattle.std.proofs.Common.{◌+◌, ◌∙◌, ◌∷◌, ◌≡◌}
use Rattle.std.proofs.lemmas.Grind.{flat_map-append}
use Rattle.std.proofs.lemmas.List.{map-append}
use Rattle.std.proofs.lemmas.List.Elements.{filter-append}
use Rattle.std.specs.List.{flat_map, range_with_len}

range_more : (a n : ℕ) → range_with_len a (suc n) ≡ range_with_len a n ++ (a + n) ∷ []
range_more a zero = let e : a ≡ a + 0 = omega arith in ap (λ (x : ℕ). x ∷ []) e
range_more a (suc n) =
    let e : a + 1 + n ≡ a + suc n = omega arith in
    ap (λ (l : List ℕ). a ∷ l) (range_more (a + 1) n ∙ ap (λ (x : ℕ). range_with_len (a + 1) n ++ x ∷ []) e)

-- The numbers below n, and n.
pub below_more : (n : ℕ) → below (n + 1) ≡ below n ++ n ∷ []
below_more n =
    let one : n + 1 ≡ suc n = omega arith in
    let here : 0 + n ≡ n = omega arith in
    ap (range_with_len 0) one ∙ range_more 0 n ∙ ap (λ (x : ℕ). below n ++ x ∷ []) here

-- A list with one value for each number, and the next value.
pub map_more : {X : Type 0} (f : ℕ → X) (n : ℕ) → map f (below (n + 1)) ≡ map f (below n) ++ f n ∷ []
map_more f n = ap (map f) (below_more n) ∙ map-append f (below n) (n ∷ [])

pub flat_map_next : {X : Type 0} (f : ℕ → List X) (n : ℕ) → flat_map f (below (n + 1)) ≡ flat_map f (below n) ++ f n
flat_map_next f n = ap (flat_map f) (below_more n) ∙ flat_map-append f (below n) (n ∷ []) ∙ ap (λ l. flat_map f (below n) ++ l)
    (append-nil (f n))

-- The same after other values.
behind : {X : Type 0} (front x y z now next : List X) → z ≡ x ++ y → now ≡ front ++ x → next ≡ now ++ y → next ≡ front ++ z
behind front x y z now next k e h = h ∙ ap (λ l. l ++ y) e ∙ append_assoc front x y ∙ ap (λ l. front ++ l) (sym k)

pub mapped_on : {X : Type 0} (f : ℕ → X) (n : ℕ) (front now next : List X) → now ≡ front ++ map f (below n) → next ≡ now ++ f n ∷ []
    → next ≡ front ++ map f (below (n + 1))
mapped_on f n front now next = behind front (map f (below n)) (f n ∷ []) (map f (below (n + 1))) now next (map_more f n)

filter_next : (p : ℕ → Bool) (n : ℕ) → filter p (below (n + 1)) ≡ filter p (below n) ++ filter p (n ∷ [])
filter_next p n = ap (filter p) (below_more n) ∙ filter-append p (below n) (n ∷ [])

-- The same for the numbers that pass a test.
pub taken_on : {X : Type 0} (p : ℕ → Bool) (f : ℕ → List X) (n : ℕ) (front now next : List X) → p n ≡ true
    → now ≡ front ++ flat_map f (filter p (below n)) → next ≡ now ++ f n → next ≡ front ++ flat_map f (filter p (below (n + 1)))
taken_on p f n front now next pass =
    let one : filter p (n ∷ []) ≡ n ∷ [] = rw pass refl in
    let more : filter p (below (n + 1)) ≡ filter p (below n) ++ n ∷ [] = filter_next p n ∙ ap (λ l. filter p (below n) ++ l) one in
    behind front (flat_map f (filter p (below n))) (f n) (flat_map f (filter p (below (n + 1)))) now next
    (ap (flat_map f) more ∙ flat_map-append f (filter p (below n)) (n ∷ []) ∙ ap (λ l. flat_map f (filter p (below n)) ++ l)
    (append-nil (f n)))

pub left_out : {X : Type 0} (p : ℕ → Bool) (f : ℕ → List X) (n : ℕ) (front now : List X) → p n ≡ false
    → now ≡ front ++ flat_map f (filter p (below n)) → now ≡ front ++ flat_map f (filter p (below (n + 1)))
left_out p f n front now fails e =
    let none : filter p (n ∷ []) ≡ [] = rw fails refl in
    let same : filter p (below (n + 1)) ≡ filter p (below n) = filter_next p n ∙ ap (λ l. filter p (below n) ++ l) none ∙ append-nil
    (filter p (below n)) in
    e ∙ ap (λ l. front ++ flat_map f l) (sym same)
