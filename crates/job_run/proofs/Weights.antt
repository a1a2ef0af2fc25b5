-- The sum of the weights of the busy actors falls with each turn.
use Rattle.text_and_lists.proofs.Members.{some_is}
use Rattle.job_run.specs.Holds.{hand_left, is_busy_at, weight, weights}
use Rattle.job_run.specs.inner.Posts.{raised}
use Rattle.job_run.specs.declared.hands.Hand.{Hand}
use Rattle.job_states.specs.declared.standing.Standing.{Standing}
use Rattle.s3_types.specs.Store.{Scene}
use Rattle.std.proofs.Common.{Bool, List, Some, arith, cond, false, inl, inr, length, refl, slice_get, suc, sym, true, zero, ℕ, [], ◌+◌}
use Rattle.std.proofs.Common.{◌<◌, ◌∙◌, ◌∷◌, ◌≡◌, ◌≤◌, ◌⊎◌}
use Rattle.std.proofs.Math.Nat.{mul-le-mul_left}

-- The weight of one hand at its place, or 0 if its actor is not busy.
abbrev share : {W : Type 0} → (W → Scene → ℕ) → ℕ → Scene → List Standing → ℕ → Hand W → ℕ
share left rise s standings place h = cond (is_busy_at standings place) (weight rise place (hand_left left s h)) 0

-- What a turn of the actor at this place changes in the weights.
pub record Lighter {W : Type 0} (left : W → Scene → ℕ) (rise : ℕ) (place : ℕ) (s t : Scene) (st ts : List Standing)
    (hs ks : List (Hand W)) : Type 0 where
  pub places : length ks ≡ length hs
  pub within : place < length hs
  pub busy : is_busy_at st place ≡ true
  pub others : (q : ℕ) → (q ≡ place → ⊥) → is_busy_at ts q ≡ is_busy_at st q
  pub hands : (q : ℕ) → (q ≡ place → ⊥) → slice_get ks q ≡ slice_get hs q
  pub beside : (q : ℕ) (h : Hand W) → (q ≡ place → ⊥) → is_busy_at st q ≡ true → slice_get hs q ≡ Some h
      → hand_left left t h ≤ hand_left left s h + raised rise q
  pub own : (is_busy_at ts place ≡ false) ⊎ ((h k : Hand W) → slice_get hs place ≡ Some h → slice_get ks place ≡ Some k
      → hand_left left t k < hand_left left s h)

module _ {W : Type 0} (left : W → Scene → ℕ) (rise : ℕ) (s t : Scene) (st ts : List Standing) where
  -- ---- lists of hands from a place on

  abbrev old_share : ℕ → Hand W → ℕ
  old_share q h = share left rise s st q h

  abbrev new_share : ℕ → Hand W → ℕ
  new_share q h = share left rise t ts q h

  -- If no hand weighs more than before, neither do all together.
  no_more : (n : ℕ) (hs ks : List (Hand W)) → length ks ≡ length hs
      → ((i q : ℕ) (h k : Hand W) → q ≡ n + i → slice_get hs i ≡ Some h → slice_get ks i ≡ Some k → new_share q k ≤ old_share q h)
      → weights left rise t ts n ks ≤ weights left rise s st n hs
  no_more n [] [] e each = omega arith
  no_more n [] (k ∷ ks) e each = absurd (omega arith)
  no_more n (h ∷ hs) [] e each = absurd (omega arith)
  no_more n (h ∷ hs) (k ∷ ks) e each =
      let one : new_share n k ≤ old_share n h = each 0 n h k (omega arith) refl refl in
      let rest = no_more (n + 1) hs ks (omega arith) (λ i q x y at a b. each (suc i) q x y (omega (arith, at)) a b) in
      omega (arith, one, rest)

  -- If the hand at place p weighs less by d, and no other weighs more, all together weigh less by d.
  less_by : (d n p : ℕ) (hs ks : List (Hand W)) → length ks ≡ length hs → p < length hs
      → ((q : ℕ) (h k : Hand W) → q ≡ n + p → slice_get hs p ≡ Some h → slice_get ks p ≡ Some k → new_share q k + d ≤ old_share q h)
      → ((i q : ℕ) (h k : Hand W) → (i ≡ p → ⊥) → q ≡ n + i → slice_get hs i ≡ Some h → slice_get ks i ≡ Some k
      → new_share q k ≤ old_share q h)
      → weights left rise t ts n ks + d ≤ weights left rise s st n hs
  less_by d n p [] ks e low at others = absurd (omega arith)
  less_by d n p (h ∷ hs) [] e low at others = absurd (omega arith)
  less_by d n zero (h ∷ hs) (k ∷ ks) e low at others =
      let one : new_share n k + d ≤ old_share n h = at n h k (omega arith) refl refl in
      let rest = no_more (n + 1) hs ks (omega arith) (λ i q x y is a b. others (suc i) q x y (λ c. absurd cc) (omega (arith, is)) a b) in
      omega (arith, one, rest)
  less_by d n (suc p) (h ∷ hs) (k ∷ ks) e low at others =
      let one : new_share n k ≤ old_share n h = others 0 n h k (λ c. absurd cc) (omega arith) refl refl in
      let rest =
      less_by d (n + 1) p hs ks (omega arith) (omega arith) (λ q x y is a b. at q x y (omega (arith, is)) a b)
      (λ i q x y ne is a b. others (suc i) q x y (λ c. ne (omega (arith, c))) (omega (arith, is)) a b) in
      omega (arith, one, rest)

  -- ---- one hand

  module _ (place : ℕ) (hs ks : List (Hand W)) (l : Lighter left rise place s t st ts hs ks) where
    -- A hand at another place.
    kept_by : (q : ℕ) (b : Bool) (x y : ℕ) → (b ≡ true → x ≤ y + raised rise q)
        → cond b (weight rise q x) 0 ≤ cond b (weight rise q y) 0 + raised rise q
    kept_by zero false x y h = omega arith
    kept_by zero true x y h = let g : x ≤ y + rise = h refl in omega arith
    kept_by (suc q) false x y h = omega arith
    kept_by (suc q) true x y h =
        let g : x ≤ y + 0 = h refl in
        let more : x + 1 ≤ y + 1 = omega arith in
        omega (arith, mul-le-mul_left (rise + 1) more)

    kept_share : (q : ℕ) (h k : Hand W) → (q ≡ place → ⊥) → slice_get hs q ≡ Some h → slice_get ks q ≡ Some k
        → new_share q k ≤ old_share q h + raised rise q
    kept_share q h k ne a b =
        let same : h ≡ k = some_is (sym a ∙ sym (l.hands q ne) ∙ b) in
        rw (sym same, l.others q ne) (kept_by q (is_busy_at st q) (hand_left left t h) (hand_left left s h) (λ y. l.beside q h ne y a))

    later_share : (r q : ℕ) (h k : Hand W) → r ≡ suc q → (suc q ≡ place → ⊥) → slice_get hs (suc q) ≡ Some h → slice_get ks (suc q) ≡ Some k
        → new_share r k ≤ old_share r h
    later_share r q h k e ne a b = let g : new_share (suc q) k ≤ old_share (suc q) h + 0 = kept_share (suc q) h k ne a b in rw e
        (omega (arith, g))

    -- The hand of the actor whose turn it is weighs less by this.
    abbrev drop : ℕ → ℕ
    drop zero = 1
    drop (suc q) = rise + 1

    fell : (q x y : ℕ) → x < y → weight rise q x + drop q ≤ weight rise q y
    fell zero x y h = omega arith
    fell (suc q) x y h = let more : (x + 1) + 1 ≤ y + 1 = omega arith in omega (arith, mul-le-mul_left (rise + 1) more)

    idle : (q y : ℕ) → 0 + drop q ≤ weight rise q y
    idle zero y = omega arith
    idle (suc q) y = let more : 1 ≤ y + 1 = omega arith in omega (arith, mul-le-mul_left (rise + 1) more)

    own_share : (q : ℕ) (h k : Hand W) → q ≡ place → slice_get hs place ≡ Some h → slice_get ks place ≡ Some k
        → new_share q k + drop place ≤ old_share q h
    own_share q h k e a b =
        let x = hand_left left t k in
        let y = hand_left left s h in
        rw (e, l.busy) (elim l.own [
          | inl off ↦ rw off (idle place y)
          | inr less ↦
              elim (is_busy_at ts place) as (λ v. cond v (weight rise place x) 0 + drop place ≤ weight rise place y)
              [ true ↦ fell place x y (less h k a b) | false ↦ idle place y ]
        ])

-- ---- all hands

-- The turn of the driver, and that of an attempt.
pub lighter : {W : Type 0} (left : W → Scene → ℕ) (rise place : ℕ) (s t : Scene) (st ts : List Standing) (hs ks : List (Hand W))
    → Lighter left rise place s t st ts hs ks → weights left rise t ts 0 ks < weights left rise s st 0 hs
lighter left rise zero s t st ts hs ks l =
    let less = less_by left rise s t st ts 1 0 0 hs ks l.places l.within (own_share left rise s t st ts 0 hs ks l)
    (elim [
      | zero ↦ λ q h k ne e a b. absurd (ne refl)
      | suc i ↦ λ q h k ne e a b. later_share left rise s t st ts 0 hs ks l q i h k (omega (arith, e)) ne a b
    ]) in
    omega (arith, less)
lighter left rise (suc p) s t st ts [] ks l = absurd (omega (arith, l.within))
lighter left rise (suc p) s t st ts (h ∷ hs) [] l = absurd (omega (arith, l.places))
lighter left rise (suc p) s t st ts (h ∷ hs) (k ∷ ks) l =
    let one : share left rise t ts 0 k ≤ share left rise s st 0 h + rise = kept_share left rise s t st ts (suc p) (h ∷ hs) (k ∷ ks) l 0 h k
    (λ c. absurd cc) refl refl in
    let rest = less_by left rise s t st ts (rise + 1) 1 p hs ks (omega (arith, l.places)) (omega (arith, l.within))
    (λ q x y e a b. own_share left rise s t st ts (suc p) (h ∷ hs) (k ∷ ks) l q x y (omega (arith, e)) a b)
    (λ i q x y ne e a b. later_share left rise s t st ts (suc p) (h ∷ hs) (k ∷ ks) l q i x y (omega (arith, e)) (λ c. ne (omega (arith, c)))
    a b) in
    omega (arith, one, rest)
