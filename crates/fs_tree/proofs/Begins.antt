-- Texts that begin with other texts, and markers.
use Rattle.text_and_lists.proofs.Members.{eq_nat, nat_true}
use Rattle.dir_markers.specs.Markers.{marker_of}
use Rattle.fs_tree.specs.Tree.{is_marker}
use Rattle.s3_types.specs.Pages.{begins}
use Rattle.std.proofs.Common.{List, ap, arith, inl, inr, length, nat_eq, refl, sym, true, ℕ, [], ◌&&◌, ◌++◌, ◌∙◌, ◌∷◌, ◌≡◌, ◌≤◌, ◌⊎◌}
use Rattle.std.proofs.lemmas.Bool.{and_parts, false≢true}

pub begins_more : (p t : List ℕ) → begins p (p ++ t) ≡ true
begins_more [] t = refl
begins_more (x ∷ p) t = rw (nat_true x x refl) (begins_more p t)

pub begins_all : (p : List ℕ) → begins p p ≡ true
begins_all [] = refl
begins_all (x ∷ p) = rw (nat_true x x refl) (begins_all p)

pub begins_marker : (p : List ℕ) → begins p (marker_of p) ≡ true
begins_marker p = begins_more p (47 ∷ [])

pub begins_trans : (p q k : List ℕ) → begins p q ≡ true → begins q k ≡ true → begins p k ≡ true
begins_trans [] q k h g = refl
begins_trans (x ∷ p) [] k h g = absurd (false≢true h)
begins_trans (x ∷ p) (y ∷ q) [] h g = absurd (false≢true g)
begins_trans (x ∷ p) (y ∷ q) (z ∷ k) h g =
    let a = and_parts (nat_eq x y) (begins p q) h in
    let b = and_parts (nat_eq y z) (begins q k) g in
    ap (λ c. c && begins p k) (ap (λ v. nat_eq v z) (eq_nat x y a.0) ∙ b.0) ∙ begins_trans p q k a.1 b.1

-- If a text begins with two texts, one of these begins with the other.
pub one_begins : (a b k : List ℕ) → begins a k ≡ true → begins b k ≡ true → (begins a b ≡ true) ⊎ (begins b a ≡ true)
one_begins [] b k h g = inl refl
one_begins (x ∷ a) [] k h g = inr refl
one_begins (x ∷ a) (y ∷ b) [] h g = absurd (false≢true h)
one_begins (x ∷ a) (y ∷ b) (z ∷ k) h g =
    let i = and_parts (nat_eq x z) (begins a k) h in
    let j = and_parts (nat_eq y z) (begins b k) g in
    let e = eq_nat x z i.0 ∙ sym (eq_nat y z j.0) in
    elim (one_begins a b k i.1 j.1) [ inl i ↦ inl (rw (nat_true x y e) i) | inr i ↦ inr (rw (nat_true y x (sym e)) i) ]

pub begins_length : (p q : List ℕ) → begins p q ≡ true → length p ≤ length q
begins_length [] q h = omega arith
begins_length (x ∷ p) [] h = absurd (false≢true h)
begins_length (x ∷ p) (y ∷ q) h = let e = begins_length p q (and_parts (nat_eq x y) (begins p q) h).1 in omega (arith, e)

-- The key of a marker ends in `/`.
pub marker_is : (p : List ℕ) → is_marker (marker_of p) ≡ true
marker_is (x ∷ y ∷ p) = marker_is (y ∷ p)
marker_is _ = refl

pub no_empty : (q : List ℕ) → begins (marker_of q) [] ≡ true → ⊥
no_empty [] h = false≢true h
no_empty (y ∷ q) h = false≢true h

-- If a marker begins with another marker, its path is the same or below that of the other.
pub marker_at : (q p : List ℕ) → begins (marker_of q) (marker_of p) ≡ true → (q ≡ p) ⊎ (begins (marker_of q) p ≡ true)
marker_at [] [] h = inl refl
marker_at (y ∷ q) [] h = absurd (no_empty q (and_parts (nat_eq y 47) (begins (marker_of q) []) h).1)
marker_at [] (x ∷ p) h = inr h
marker_at (y ∷ q) (x ∷ p) h =
    let w = and_parts (nat_eq y x) (begins (marker_of q) (marker_of p)) h in
    elim (marker_at q p w.1) [ inl g ↦ inl (λ i. eq_nat y x w.0 i ∷ g i) | inr g ↦ inr (rw w.0 g) ]
