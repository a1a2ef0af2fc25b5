-- Laws of reading that ends at the first fault.
use Rattle.text_and_lists.specs.Reading.{Fails, Gives, GivesBy, Read, Unless, check, made, need, passing, ◌>>=◌}
use Rattle.std.proofs.Common.{Bool, Err, List, None, Ok, Option, Result, Some, ap, append_assoc, cond, false, refl, subst, sym, true, ℕ, []}
use Rattle.std.proofs.Common.{◌++◌, ◌∙◌, ◌∷◌, ◌≡◌}
use Rattle.std.specs.Prelude.{IfOk, ⊤}

-- ---- steps that succeed

-- A step that succeeds, and the steps after it.
pub record Parted {F A B : Type 0} (r : Result A F) (f : A → Result B F) (y : B) : Type 0 where
  pub value : A
  pub first : r ≡ Ok value
  pub next : f value ≡ Ok y

pub parted : {F A B : Type 0} (r : Result A F) (f : A → Result B F) (y : B) → (r >>= f) ≡ Ok y → Parted r f y
parted (Ok x) f y h = record { value = x; first = refl; next = h }
parted (Err e) f y h = absurd cc

pub same_ok : {F A : Type 0} (x y : A) → (let r : Result A F = Ok x in r ≡ Ok y) → x ≡ y
same_ok x y h = cc

pub needed : {F A : Type 0} (o : Option A) (e : F) (x : A) → need o e ≡ Ok x → o ≡ Some x
needed None e x h = absurd cc
needed (Some y) e x h = cc

pub checked : {F : Type 0} (b : Bool) (e : F) (u : ⊤) → check b e ≡ Ok u → b ≡ true
checked true e u h = refl
checked false e u h = absurd cc

-- What holds of every value that `make` gives holds of the result.
pub made_so : {F A B : Type 0} (P : B → Type 0) (r : Result A F) (make : A → B) (y : B) → (r >>= λ x. Ok (make x)) ≡ Ok y
    → ((x : A) → r ≡ Ok x → P (make x)) → P y
made_so P r make y h f = let a = parted r (λ x. Ok (make x)) y h in subst P (same_ok (make a.value) y a.next) (f a.value a.first)

-- A result of Ok means that the test was passed.
pub passed : {F A : Type 0} (b : Bool) (e : F) (x y : A) → cond b (Ok x) (Err e) ≡ Ok y → (b ≡ true) × (x ≡ y)
passed true e x y h = (refl, cc)
passed false e x y h = absurd cc

-- A result of Ok means that the test did not stop it.
pub not_stopped : {F A : Type 0} (b : Bool) (e : F) (x y : A) → cond b (Err e) (Ok x) ≡ Ok y → (b ≡ false) × (x ≡ y)
not_stopped true e x y h = absurd cc
not_stopped false e x y h = (refl, cc)

module _ {F A : Type 0} (r : Read F A) (p q : A → Bool) (d e : F) (x : A × List ℕ) where
  -- A result of Ok means that both tests were passed.
  pub tested : (r >>= λ n. passing p d n >>= λ m. passing q e m) ≡ Ok x → (r ≡ Ok x) × (p x.0 ≡ true) × (q x.0 ≡ true)
  tested h =
      let a = parted r (λ n. passing p d n >>= λ m. passing q e m) x h in
      let b = parted (passing p d a.value) (λ m. passing q e m) x a.next in
      let first = passed (p a.value.0) d a.value b.value b.first in
      let second = passed (q b.value.0) e b.value x b.next in
      let same : a.value ≡ x = first.1 ∙ second.1 in (
        a.first ∙ ap (λ (y : A × List ℕ). Ok y) same,
        subst (λ (y : A × List ℕ). p y.0 ≡ true) same first.0,
        subst
            (λ (y : A × List ℕ). q y.0 ≡ true) second.1 second.0,
      )

  -- If both tests are passed, the result is Ok.
  pub tested_again : r ≡ Ok x → p x.0 ≡ true → q x.0 ≡ true → (r >>= λ n. passing p d n >>= λ m. passing q e m) ≡ Ok x
  tested_again h f g = rw (h, f, g) refl

-- A result of Ok comes from a value that was read.
pub unmade : {F A B : Type 0} (f : A → B) (r : Read F A) (y : B) (rest : List ℕ) → made f r ≡ Ok (y, rest) → (x : A) × (r ≡ Ok (x, rest))
    × (y ≡ f x)
unmade {F} {A} {B} f (Ok x) y rest h =
    let same : ◌≡◌ {A = B × List ℕ} (f x.0, x.1) (y, rest) = same_ok {F = F} _ _ h in
    (x.0, ap (λ (t : List ℕ). Ok (x.0, t)) (ap (λ (p : B × List ℕ). p.1) same), sym (ap (λ (p : B × List ℕ). p.0) same))
unmade f (Err e) y rest h = absurd cc

-- ---- faults

-- If P implies Q, and P holds unless the test does, then Q holds unless the test does.
pub unless_more : (b : Bool) {P Q : Type 0} → (P → Q) → Unless b P → Unless b Q
unless_more true f h = tt
unless_more false f h = f h

made_err : {F A B : Type 0} (f : A → B) (r : Read F A) (e : F) → r ≡ Err e → made f r ≡ Err e
made_err f r e h = ap (made f) h

unmade_err : {F A B : Type 0} (f : A → B) (r : Read F A) (e : F) → made f r ≡ Err e → r ≡ Err e
unmade_err f (Ok x) e h = absurd cc
unmade_err f (Err d) e h = cc

module _ {F : Type 0} (wanting : F → Bool) where
  -- The fault of a read value is the fault of what a function makes of it.
  pub made_fault : {A B : Type 0} (f : A → B) (r : Read F A) (e : F) → Fails wanting e r → Fails wanting e (made f r)
  made_fault f r e h = unless_more (wanting e) (made_err f r e) h

  -- And conversely.
  pub unmade_fault : {A B : Type 0} (f : A → B) (r : Read F A) (e : F) → Fails wanting e (made f r) → Fails wanting e r
  unmade_fault f r e h = unless_more (wanting e) (unmade_err f r e) h

  -- If reading gives the fault that a call returned, the call gives what reading gives.
  pub gives_fault : {A B : Type 0} (view : A → B) (result : Result A F) (e : F) (read : Result B F) → result ≡ Err e → Fails wanting e read
      → GivesBy wanting view result read
  gives_fault {A} view result e read is fault = subst (λ (r : Result A F). GivesBy wanting view r read) (sym is) fault

  -- The value that a call returned is the one that reading gives.
  pub found : {A : Type 0} (result read : Result A F) → Gives wanting result read → IfOk result (λ x. read ≡ Ok x)
  found (Ok x) read h = h
  found (Err e) read h = tt

  -- What follows from the value that reading gives holds of the value that a call returned.
  pub found_so : {A : Type 0} (P : A → Type 0) (result read : Result A F) → ((x : A) → read ≡ Ok x → P x) → Gives wanting result read
      → IfOk result P
  found_so P (Ok x) read f h = f x h
  found_so P (Err e) read f h = tt

  -- A value that reading gives is the one that a call returns.
  pub only : {A : Type 0} (result read : Result A F) (x : A) → read ≡ Ok x → Gives wanting result read → Gives wanting result (Ok x)
  only result read x is h = subst (Gives wanting result) is h

-- ---- a list that is read

module _ {F A : Type 0} where
  -- The list, after the values that were read before.
  abbrev pub with_front : List A → Result (List A) F → Result (List A) F
  with_front front rest = rest >>= λ xs. Ok (front ++ xs)

  -- One value, and those after it.
  abbrev pub listed : Result A F → Result (List A) F → Result (List A) F
  listed first rest = first >>= λ x. rest >>= λ xs. Ok (x ∷ xs)

  regroup : (front : List A) (x : A) (rest : Result (List A) F) → with_front front (listed (Ok x) rest) ≡ with_front (front ++ x ∷ []) rest
  regroup front x (Ok xs) = ap (λ (l : List A). Ok l) (sym (append_assoc front (x ∷ []) xs))
  regroup front x (Err e) = refl

  -- One more value of a list.
  pub one_more : (front : List A) (first : Result A F) (x : A) (rest total : Result (List A) F) → first ≡ Ok x
      → with_front front (listed first rest) ≡ total → with_front (front ++ x ∷ []) rest ≡ total
  one_more front first x rest total is so_far = sym (regroup front x rest) ∙ sym
      (ap (λ (r : Result A F). with_front front (listed r rest)) is) ∙ so_far

  -- The fault of a value is the fault of the list.
  pub ends : (wanting : F → Bool) (e : F) (front : List A) (first : Result A F) (rest total : Result (List A) F) → Fails wanting e first
      → with_front front (listed first rest) ≡ total → Fails wanting e total
  ends wanting e front first rest total h so_far = unless_more (wanting e) (λ is. sym so_far ∙ ap
      (λ (r : Result A F). with_front front (listed r rest)) is) h
