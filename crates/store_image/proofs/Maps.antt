-- Maps that grow by rising keys.
use Rattle.text_and_lists.proofs.Less.{less_of}
use Rattle.text_and_lists.specs.Order.{text_equiv}
use Rattle.s3_types.specs.Answer.{part_put}
use Rattle.s3_types.specs.Multipart.{is_part_number, live, with_key, with_part}
use Rattle.s3_types.specs.Store.{Parts, Upload, Uploads}
use Rattle.std.proofs.Common.{Bool, List, None, Option, Some, ap, arith, cond, false, refl, sym, true, ℕ, ◌<◌, ◌∙◌, ◌≡◌, ◌≤◌}
use Rattle.std.proofs.lemmas.Bool.Decides.{nat_tests}
use Rattle.std.proofs.lemmas.Cmp.{nat_cmp_total}
use Rattle.std.specs.Cmp.{IsTotalOrder, eq_by_cmp_equiv}
use Rattle.std.specs.Ordering.{eq_by_cmp, is_eq, is_lt, nat_cmp, ordering_reverse}
use Rattle.std.specs.declared.cmp.Ordering.{Ordering}
use Rattle.store_image.specs.Reading.{is_after}
use Rattle.std.specs.FinMap as fin

module _ {K : Type 0} {R : K → K → Ordering} (o : IsTotalOrder R) where
  -- A key after a key that comes after the last one comes after the last one too.
  pub after_both : (last : Option K) (k q : K) → is_after R last k ≡ true → is_after R (Some k) q ≡ true → is_after R last q ≡ true
  after_both None k q h g = refl
  after_both (Some p) k q h g = ap is_lt (o.trans p k q (less_of _ h) (less_of _ g))

  -- A key that is less is another key.
  pub other : (k q : K) → is_after R (Some k) q ≡ true → eq_by_cmp R q k ≡ false
  other k q h = ap is_eq (o.antisymm q k ∙ ap ordering_reverse (less_of _ h))

module _ {K X : Type 0} (R : K → K → Ordering) where
  -- The map has no key that comes after the last one.
  abbrev pub IsFree : Option K → fin.FinMap R X → Type 0
  IsFree last m = (k : K) → is_after R last k ≡ true → fin.get m k ≡ None

  pub free_empty : IsFree None fin.empty
  free_empty k h = fin.get-empty R k

module _ {K X : Type 0} {R : K → K → Ordering} where
  pub still_free : (o : IsTotalOrder R) (last : Option K) (m : fin.FinMap R X) (k : K) (v : X) → IsFree R last m → is_after R last k ≡ true
      → IsFree R (Some k) (fin.insert m k v)
  still_free o last m k v free after q h =
      fin.get-insert o m k v q ∙ ap (λ b. cond b (Some v) (fin.get m q)) (other o k q h) ∙ free q (after_both o last k q after h)

  -- A second put at a key replaces the first.
  pub insert_again : (o : IsTotalOrder R) → fin.IsAntisymmetric R → (m : fin.FinMap R X) (k : K) (v w : X)
      → fin.insert (fin.insert m k v) k w ≡ fin.insert m k w
  insert_again o exact m k v w = fin.same_map o exact _ _ (λ q.
      fin.get-insert o (fin.insert m k v) k w q ∙ ap (cond (eq_by_cmp R q k) (Some w)) (fin.get-insert o m k v q)
      ∙ shadowed (eq_by_cmp R q k) (Some w) (Some v) (fin.get m q) ∙ sym (fin.get-insert o m k w q))
    where
      shadowed : (b : Bool) (x y z : Option X) → cond b x (cond b y z) ≡ cond b x z
      shadowed true x y z = refl
      shadowed false x y z = refl

-- ---- ids

pub lt_from : (a b : ℕ) → is_lt (nat_cmp a b) ≡ true → a < b
lt_from a b h = grind (arith, nat_tests)

lt_to : (a b : ℕ) → a < b → is_lt (nat_cmp a b) ≡ true
lt_to a b h = grind (arith, nat_tests)

-- An id that is not less than one after the last comes after the last too.
pub from_id : (last : Option ℕ) (id i : ℕ) → is_after nat_cmp last id ≡ true → id ≤ i → is_after nat_cmp last i ≡ true
from_id None id i h le = refl
from_id (Some p) id i h le = lt_to p i (omega (arith, lt_from p id h))

-- If an id is below the counter, the map still has no ids from the counter on.
pub still_fresh : {X : Type 0} (m : fin.FinMap nat_cmp X) (next id : ℕ) (v : X) → id < next → ((i : ℕ) → next ≤ i → fin.get m i ≡ None)
    → (i : ℕ) → next ≤ i → fin.get (fin.insert m id v) i ≡ None
still_fresh m next id v lt fresh i le =
    fin.get-insert nat_cmp_total m id v i
    ∙ ap (λ b. cond b (Some v) (fin.get m i)) (other nat_cmp_total id i (lt_to id i (omega arith))) ∙ fresh i le

-- ---- the parts of an upload

-- The upload that was put at an id is there.
pub held_at : (m now : Uploads) (id : ℕ) (u : Upload) → now ≡ fin.insert m id u → fin.get now id ≡ Some u
held_at m now id u e = ap (λ (n : Uploads). fin.get n id) e ∙ fin.get-insert nat_cmp_total m id u id ∙ ap
    (λ b. cond b (Some u) (fin.get m id)) ((eq_by_cmp_equiv nat_cmp_total).refl id)

-- The upload that was put at an id is live with its key.
pub held_live : (m now : Uploads) (id : ℕ) (u : Upload) → now ≡ fin.insert m id u → live now u.key id ≡ Some u
held_live m now id u e = ap (with_key u.key) (held_at m now id u e) ∙ ap (λ b. cond b (Some u) None) (text_equiv.refl u.key)

-- A part that is put into the upload is among its parts.
pub part_held : (m now next : Uploads) (id number : ℕ) (key bytes : List ℕ) (parts : Parts)
    → now ≡ fin.insert m id (record { key = key; parts = parts }) → is_part_number number ≡ true
    → next ≡ part_put now id (live now key id) number bytes
    → next ≡ fin.insert m id (record { key = key; parts = fin.insert parts number bytes })
part_held m now next id number key bytes parts e n is =
    let u : Upload = record { key = key; parts = parts } in
    is ∙ ap (λ (o : Option Upload). part_put now id o number bytes) (held_live m now id u e)
    ∙ ap (λ b. cond b (fin.insert now id (with_part u number bytes)) now) n
    ∙ ap (λ (x : Uploads). fin.insert x id (with_part u number bytes)) e
    ∙ insert_again nat_cmp_total fin.nat_cmp-IsAntisymmetric m id u (with_part u number bytes)
