-- Members of a list, texts and numbers that are equal or not, and maps at a key.
use Rattle.text_and_lists.proofs.Tree.{tied}
use Rattle.text_and_lists.specs.Members.{IsIn}
use Rattle.text_and_lists.specs.Order.{text_cmp, text_eq, text_equiv, text_ties, text_total}
use Rattle.std.proofs.Common.{Bool, List, None, Option, Some, ap, arith, cond, false, inl, inr, map, nat_eq, refl, subst, sym, true, ℕ, []}
use Rattle.std.proofs.Common.{◌++◌, ◌∙◌, ◌∷◌, ◌≡◌, ◌⊎◌}
use Rattle.std.proofs.lemmas.Bool.Decides.{nat_tests}
use Rattle.std.specs.Cmp.{nat_cmp_total}
use Rattle.std.specs.FinMap.{FinMap, IsAntisymmetric, get, get-insert, get-remove, insert, nat_cmp-IsAntisymmetric, remove}
use Rattle.std.specs.FinMap.{slice_cmp-IsAntisymmetric}
use Rattle.std.specs.List.{filter}
use Rattle.std.specs.Ordering.{eq_by_cmp, nat_cmp}

-- ---- plain facts

pub some_is : {X : Type 0} {x y : X} → Some x ≡ Some y → x ≡ y
some_is e = cc

pub none_some : {X : Type 0} {x : X} {o : Option X} → o ≡ None → o ≡ Some x → ⊥
none_some e f = cc

pub false_true : {b : Bool} → b ≡ false → b ≡ true → ⊥
false_true e f = cc

pub true_or_false : (b : Bool) → (b ≡ true) ⊎ (b ≡ false)
true_or_false true = inl refl
true_or_false false = inr refl

pub none_or_some : {X : Type 0} (o : Option X) → (o ≡ None) ⊎ ((x : X) × (o ≡ Some x))
none_or_some None = inl refl
none_or_some (Some x) = inr (x, refl)

-- ---- equal or not

pub same_or_not : (a b : ℕ) → (a ≡ b) ⊎ (a ≡ b → ⊥)
same_or_not a b = grind (arith, nat_tests)

pub eq_nat : (a b : ℕ) → nat_eq a b ≡ true → a ≡ b
eq_nat a b h = grind (arith, nat_tests)

pub nat_true : (q k : ℕ) → q ≡ k → nat_eq q k ≡ true
nat_true q k e = grind (arith, nat_tests)

pub nat_false : (q k : ℕ) → (q ≡ k → ⊥) → nat_eq q k ≡ false
nat_false q k ne = grind (arith, nat_tests)

pub text_exact : IsAntisymmetric text_cmp
text_exact = slice_cmp-IsAntisymmetric nat_cmp-IsAntisymmetric

pub text_is : (p q : List ℕ) → text_eq p q ≡ true → p ≡ q
text_is p q h = text_exact p q (tied _ (sym (text_ties p q) ∙ h))

pub text_true : (p q : List ℕ) → p ≡ q → text_eq p q ≡ true
text_true p q e = ap (text_eq p) (sym e) ∙ text_equiv.refl p

pub text_false : (p q : List ℕ) → (p ≡ q → ⊥) → text_eq p q ≡ false
text_false p q ne = elim (true_or_false (text_eq p q)) [ inl h ↦ absurd (ne (text_is p q h)) | inr h ↦ h ]

pub same_or_other : (p q : List ℕ) → (p ≡ q) ⊎ (p ≡ q → ⊥)
same_or_other p q = elim (true_or_false (text_eq p q)) [ inl h ↦ inl (text_is p q h) | inr h ↦ inr (λ e. false_true h (text_true p q e)) ]

-- ---- maps by numbers

pub ties : (q k : ℕ) → eq_by_cmp nat_cmp q k ≡ nat_eq q k
ties q k = grind (arith, nat_tests)

pub nat_here : {X : Type 0} (m : FinMap nat_cmp X) (k q : ℕ) (v : X) → q ≡ k → get (insert m k v) q ≡ Some v
nat_here m k q v e = get-insert nat_cmp_total m k v q ∙ ap (λ b. cond b (Some v) (get m q)) (ties q k ∙ nat_true q k e)

pub nat_other : {X : Type 0} (m : FinMap nat_cmp X) (k q : ℕ) (v : X) → (q ≡ k → ⊥) → get (insert m k v) q ≡ get m q
nat_other m k q v ne = get-insert nat_cmp_total m k v q ∙ ap (λ b. cond b (Some v) (get m q)) (ties q k ∙ nat_false q k ne)

pub nat_gone : {X : Type 0} (m : FinMap nat_cmp X) (k q : ℕ) → q ≡ k → get (remove m k) q ≡ None
nat_gone m k q e = get-remove nat_cmp_total m k q ∙ ap (λ b. cond b None (get m q)) (ties q k ∙ nat_true q k e)

pub nat_left : {X : Type 0} (m : FinMap nat_cmp X) (k q : ℕ) → (q ≡ k → ⊥) → get (remove m k) q ≡ get m q
nat_left m k q ne = get-remove nat_cmp_total m k q ∙ ap (λ b. cond b None (get m q)) (ties q k ∙ nat_false q k ne)

-- ---- maps by texts

pub text_here : {X : Type 0} (m : FinMap text_cmp X) (k q : List ℕ) (v : X) → q ≡ k → get (insert m k v) q ≡ Some v
text_here m k q v e = get-insert text_total m k v q ∙ ap (λ b. cond b (Some v) (get m q)) (sym (text_ties q k) ∙ text_true q k e)

pub text_other : {X : Type 0} (m : FinMap text_cmp X) (k q : List ℕ) (v : X) → (q ≡ k → ⊥) → get (insert m k v) q ≡ get m q
text_other m k q v ne = get-insert text_total m k v q ∙ ap (λ b. cond b (Some v) (get m q)) (sym (text_ties q k) ∙ text_false q k ne)

pub text_gone : {X : Type 0} (m : FinMap text_cmp X) (k q : List ℕ) → q ≡ k → get (remove m k) q ≡ None
text_gone m k q e = get-remove text_total m k q ∙ ap (λ b. cond b None (get m q)) (sym (text_ties q k) ∙ text_true q k e)

pub text_left : {X : Type 0} (m : FinMap text_cmp X) (k q : List ℕ) → (q ≡ k → ⊥) → get (remove m k) q ≡ get m q
text_left m k q ne = get-remove text_total m k q ∙ ap (λ b. cond b None (get m q)) (sym (text_ties q k) ∙ text_false q k ne)

-- ---- members

pub in_front : {X : Type 0} (x : X) (xs ys : List X) → IsIn x xs → IsIn x (xs ++ ys)
in_front x [] ys h = absurd h
in_front x (y ∷ xs) ys (inl e) = inl e
in_front x (y ∷ xs) ys (inr h) = inr (in_front x xs ys h)

pub in_last : {X : Type 0} (x : X) (xs : List X) → IsIn x (xs ++ x ∷ [])
in_last x [] = inl refl
in_last x (y ∷ xs) = inr (in_last x xs)

-- A member of a mapped list comes from a member of the list.
pub in_map : {X Y : Type 0} (f : X → Y) (y : Y) (xs : List X) → IsIn y (map f xs) → (x : X) × IsIn x xs × (y ≡ f x)
in_map f y [] h = absurd h
in_map f y (x ∷ xs) (inl e) = (x, inl refl, e)
in_map f y (x ∷ xs) (inr h) = let old = in_map f y xs h in (old.0, inr old.1, old.2)

pub map_in : {X Y : Type 0} (f : X → Y) (x : X) (xs : List X) → IsIn x xs → IsIn (f x) (map f xs)
map_in f x [] h = absurd h
map_in f x (y ∷ xs) (inl e) = inl (ap f e)
map_in f x (y ∷ xs) (inr h) = inr (map_in f x xs h)

pub in_append : {X : Type 0} (x : X) (xs ys : List X) → IsIn x (xs ++ ys) → IsIn x xs ⊎ IsIn x ys
in_append x [] ys h = inr h
in_append x (y ∷ xs) ys (inl e) = inl (inl e)
in_append x (y ∷ xs) ys (inr h) = elim (in_append x xs ys h) [ inl i ↦ inl (inr i) | inr i ↦ inr i ]

pub in_back : {X : Type 0} (x : X) (xs ys : List X) → IsIn x ys → IsIn x (xs ++ ys)
in_back x [] ys h = h
in_back x (y ∷ xs) ys h = inr (in_back x xs ys h)

pub in_filter : {X : Type 0} (f : X → Bool) (x : X) (xs : List X) → IsIn x (filter f xs) → IsIn x xs × (f x ≡ true)
in_filter f x [] h = absurd h
in_filter {X = X} f x (y ∷ xs) h = by (f y) refl h (in_filter f x xs)
  where
    by : (b : Bool) → f y ≡ b → IsIn x (cond b (y ∷ filter f xs) (filter f xs)) → (IsIn x (filter f xs) → IsIn x xs × (f x ≡ true))
        → IsIn x (y ∷ xs) × (f x ≡ true)
    by true e (inl i) old = (inl i, ap f i ∙ e)
    by true e (inr i) old = let o = old i in (inr o.0, o.1)
    by false e i old = let o = old i in (inr o.0, o.1)

pub filter_in : {X : Type 0} (f : X → Bool) (x : X) (xs : List X) → IsIn x xs → f x ≡ true → IsIn x (filter f xs)
filter_in f x [] i h = absurd i
filter_in f x (y ∷ xs) (inl e) h =
    let t : f y ≡ true = ap f (sym e) ∙ h in
    subst (λ b. IsIn x (cond b (y ∷ filter f xs) (filter f xs))) (sym t) (inl e)
filter_in f x (y ∷ xs) (inr i) h = by (f y) (filter_in f x xs i h)
  where
    by : (b : Bool) → IsIn x (filter f xs) → IsIn x (cond b (y ∷ filter f xs) (filter f xs))
    by true old = inr old
    by false old = old
