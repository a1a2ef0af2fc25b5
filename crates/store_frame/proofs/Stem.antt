-- Common prefixes.
use Rattle.text_and_lists.proofs.Members.{some_is}
use Rattle.s3_types.specs.Pages.{before_slash, begins, stem}
use Rattle.std.proofs.Common.{Bool, List, Option, Some, ap, arith, false, inl, inr, nat_eq, refl, subst, sym, true, ℕ, [], ◌&&◌, ◌++◌, ◌∙◌}
use Rattle.std.proofs.Common.{◌∷◌, ◌≡◌}
use Rattle.std.proofs.lemmas.Bool.{and_parts, cases_Bool, eq-eqb, eqb-true, false≢true}
use Rattle.std.specs.Option.{option_map}

record Mapped {A : Type 0} (f : A → A) (o : Option A) (s : A) : Type 0 where
  pub from : A
  pub was : o ≡ Some from
  pub is : f from ≡ s

mapped : {A : Type 0} (f : A → A) (o : Option A) (s : A) → option_map f o ≡ Some s → Mapped f o s
mapped f o s h = grind arith

same_head : (x w : ℕ) (b : Bool) → (nat_eq x w && b) ≡ true → x ≡ w
same_head x w b h = eqb-true x w (and_parts (nat_eq x w) b h).0

rest_of : (x w : ℕ) (b : Bool) → (nat_eq x w && b) ≡ true → b ≡ true
rest_of x w b h = (and_parts (nat_eq x w) b h).1

both : (x : ℕ) (b : Bool) → b ≡ true → (nat_eq x x && b) ≡ true
both x b h = ap (λ c. c && b) (eq-eqb x x refl) ∙ h

-- ---- up to a `/`

slash_below : (q s : List ℕ) → before_slash q ≡ Some s → begins (s ++ 47 ∷ []) q ≡ true
slash_below [] s e = absurd (cc)
slash_below (x ∷ q) s e = elim (cases_Bool (nat_eq x 47)) [
  | inl t ↦ rw (← some_is (rw t at e), eqb-true x 47 t) refl
  | inr n ↦ let m = mapped (λ s. x ∷ s) (before_slash q) s (rw n at e) in rw (← m.is) (both x _ (slash_below q m.from m.was))
]

slash_same : (q s w : List ℕ) → before_slash q ≡ Some s → begins (s ++ 47 ∷ []) w ≡ true → before_slash w ≡ Some s
slash_same [] s w e h = absurd (cc)
slash_same (x ∷ q) s w e h = elim (cases_Bool (nat_eq x 47)) [
  | inl t ↦ let f : Some [] ≡ Some s = rw t at e in here w (rw (← some_is f) at h) ∙ f
  | inr n ↦
      let m = mapped (λ s. x ∷ s) (before_slash q) s (rw n at e) in
      later (slash_same q) m.from w m.was n (rw (← m.is) at h) ∙ ap Some m.is
]
  where
    here : (w : List ℕ) → begins (47 ∷ []) w ≡ true → before_slash w ≡ Some []
    here [] h = absurd (false≢true h)
    here (y ∷ w) h = rw (← same_head 47 y true h) refl

    later : ((r w : List ℕ) → before_slash q ≡ Some r → begins (r ++ 47 ∷ []) w ≡ true → before_slash w ≡ Some r) → (r w : List ℕ)
        → before_slash q ≡ Some r → nat_eq x 47 ≡ false → begins ((x ∷ r) ++ 47 ∷ []) w ≡ true → before_slash w ≡ Some (x ∷ r)
    later h r w g e f = grind arith

-- ---- after a prefix

module _ (x : ℕ) (p : List ℕ) (y : ℕ) (q : List ℕ) (s : List ℕ) (e : stem (x ∷ p) (y ∷ q) ≡ Some s) where
  stem_step : (x ≡ y) × Mapped (λ s. y ∷ s) (stem p q) s
  stem_step = grind arith

pub stem_below : (p q s : List ℕ) → stem p q ≡ Some s → begins (s ++ 47 ∷ []) q ≡ true
stem_below [] q s e = slash_below q s e
stem_below (x ∷ p) [] s e = absurd (cc)
stem_below (x ∷ p) (y ∷ q) s e =
    let m = (stem_step x p y q s e).1 in
    rw (← m.is) (both y _ (stem_below p q m.from m.was))

pub stem_prefix : (p q s : List ℕ) → stem p q ≡ Some s → begins p (s ++ 47 ∷ []) ≡ true
stem_prefix [] q s e = refl
stem_prefix (x ∷ p) [] s e = absurd (cc)
stem_prefix (x ∷ p) (y ∷ q) s e =
    let m = stem_step x p y q s e in
    rw (← m.1.is) (subst (λ z. begins (z ∷ p) (y ∷ (m.1.from ++ 47 ∷ [])) ≡ true) (sym m.0) (both y _ (stem_prefix p q m.1.from m.1.was)))

pub stem_same : (p q s w : List ℕ) → stem p q ≡ Some s → begins (s ++ 47 ∷ []) w ≡ true → stem p w ≡ Some s
stem_same [] q s w e h = slash_same q s w e h
stem_same (x ∷ p) [] s w e h = absurd (cc)
stem_same (x ∷ p) (y ∷ q) s w e h = at (stem_same p q) w (rw (← m.1.is) at h) ∙ ap Some m.1.is
  where
    m : (x ≡ y) × Mapped (λ s. y ∷ s) (stem p q) s
    m = stem_step x p y q s e

    at : ((s w : List ℕ) → stem p q ≡ Some s → begins (s ++ 47 ∷ []) w ≡ true → stem p w ≡ Some s) → (w : List ℕ)
        → begins (y ∷ (m.1.from ++ 47 ∷ [])) w ≡ true → stem (x ∷ p) w ≡ Some (y ∷ m.1.from)
    at h w g = grind arith
