-- Copies of keys, one after another.
use Rattle.text_and_lists.proofs.Members.{none_some, text_here, text_other}
use Rattle.text_and_lists.specs.Members.{IsIn}
use Rattle.bucket_ops.proofs.Below.{is_in}
use Rattle.bucket_ops.specs.Asks.{Copy as CopyKey, edited}
use Rattle.fs_rename.specs.Copies.{copied_next, copy_asks}
use Rattle.fs_rename.specs.inner.Copies.{AreFree, IsCopied, IsCopying, IsOneOf, LessCopies, Move, copied_all, copies_left}
use Rattle.fs_rename.specs.Copies.{copy_of, has_more}
use Rattle.fs_rename.specs.inner.Copies.{sources, targets}
use Rattle.fs_rename.specs.declared.copying.Copying.{Copying}
use Rattle.fs_tree.specs.Tree.{Stands}
use Rattle.s3_types.specs.Answer.{copied}
use Rattle.s3_types.specs.Store.{Objects}
use Rattle.s3_types.specs.declared.object.Object.{Object}
use Rattle.std.proofs.Common.{Bool, List, None, Option, Some, ap, arith, drop, false, inl, inr, length, nat_lt, refl, subst, suc, sym, take}
use Rattle.std.proofs.Common.{true, zero, ℕ, [], ◌&&◌, ◌++◌, ◌+◌, ◌-◌, ◌<◌, ◌∙◌, ◌∷◌, ◌≡◌, ◌≤◌, ◌⊎◌}
use Rattle.std.proofs.lemmas.Bool.{and_parts, ltb-true}
use Rattle.std.proofs.lemmas.Bool.Decides.{nat_tests}
use Rattle.std.proofs.lemmas.List.{drop-map, length-map, take_all}
use Rattle.std.specs.FinMap as fin

-- ---- lists of moves

pub some_left : (n : ℕ) (ps : List Move) → n < length ps → (p : Move) × (qs : List Move) × (drop n ps ≡ p ∷ qs)
some_left n [] h = absurd (omega (arith, h))
some_left zero (p ∷ ps) h = (p, ps, refl)
some_left (suc n) (p ∷ ps) h = some_left n ps (omega (arith, h))

take_one : (n : ℕ) (ps : List Move) (p : Move) (qs : List Move) → drop n ps ≡ p ∷ qs → take (suc n) ps ≡ take n ps ++ p ∷ []
take_one zero ps p qs h = ap (take 1) h
take_one (suc n) [] p qs h = absurd (cc)
take_one (suc n) (x ∷ ps) p qs h = ap (λ l. x ∷ l) (take_one n ps p qs h)

pub in_targets : (ps : List Move) (k l : List ℕ) → IsOneOf k l ps → IsIn l (targets ps)
in_targets [] k l h = absurd h
in_targets (p ∷ ps) k l (inl e) = inl e.1
in_targets (p ∷ ps) k l (inr h) = inr (in_targets ps k l h)

pub in_sources : (ps : List Move) (k l : List ℕ) → IsOneOf k l ps → IsIn k (sources ps)
in_sources [] k l h = absurd h
in_sources (p ∷ ps) k l (inl e) = inl e.0
in_sources (p ∷ ps) k l (inr h) = inr (in_sources ps k l h)

pub is_target : (ps : List Move) (l : List ℕ) → IsIn l (targets ps) → (k : List ℕ) × IsOneOf k l ps
is_target [] l h = absurd h
is_target (p ∷ ps) l (inl e) = (p.0, inl (refl, e))
is_target (p ∷ ps) l (inr h) = let w = is_target ps l h in (w.0, inr w.1)

pub is_source : (ps : List Move) (k : List ℕ) → IsIn k (sources ps) → (l : List ℕ) × IsOneOf k l ps
is_source [] k h = absurd h
is_source (p ∷ ps) k (inl e) = (p.1, inl (e, refl))
is_source (p ∷ ps) k (inr h) = let w = is_source ps k h in (w.0, inr w.1)

pub one_in_take : (n : ℕ) (k l : List ℕ) (ps : List Move) → IsOneOf k l (take n ps) → IsOneOf k l ps
one_in_take (suc n) k l (p ∷ ps) (inl e) = inl e
one_in_take (suc n) k l (p ∷ ps) (inr h) = inr (one_in_take n k l ps h)
one_in_take _ k l _ h = absurd h

-- ---- one copy

-- It leaves every key but its target unchanged.
copy_keeps : (m : Objects) (q : List ℕ) (o : Option Object) (k : List ℕ) → (k ≡ q → ⊥) → fin.get (copied m q o) k ≡ fin.get m k
copy_keeps m q None k h = refl
copy_keeps m q (Some v) k h = text_other m q k v h

-- It puts at the target what was at the source.
copy_puts : (m : Objects) (q l : List ℕ) (o : Option Object) (v : Object) → l ≡ q → o ≡ Some v → fin.get (copied m q o) l ≡ Some v
copy_puts m q l None v e h = absurd (none_some refl h)
copy_puts m q l (Some w) v e h = text_here m q l w e ∙ h

-- ---- all copies

pub copies_keep : (m : Objects) (ps : List Move) (k : List ℕ) → (IsIn k (targets ps) → ⊥) → fin.get (copied_all m ps) k ≡ fin.get m k
copies_keep m [] k h = refl
copies_keep m (p ∷ ps) k h = copies_keep (copied m p.1 (fin.get m p.0)) ps k (λ g. h (inr g)) ∙ copy_keeps m p.1 (fin.get m p.0) k
    (λ e. h (inl e))

-- No key that is to be moved is a new key.
pub not_target : (z : Objects) (ps : List Move) → AreFree z ps → (k l : List ℕ) → IsOneOf k l ps → IsIn k (targets ps) → ⊥
not_target z ps h k l g e = grind (arith, is_target)

-- Each key's object is at its new key after all copies, if m has the sources as z had them.
copies_put : (z : Objects) (ps : List Move) (m : Objects) → ((k l : List ℕ) → IsOneOf k l ps → fin.get m k ≡ fin.get z k)
    → ((k l : List ℕ) → IsOneOf k l ps → IsIn k (targets ps) → ⊥) → ((k l : List ℕ) → IsOneOf k l ps → Stands z k)
    → ((k j l : List ℕ) → IsOneOf k l ps → IsOneOf j l ps → k ≡ j)
    → (k l : List ℕ) → IsOneOf k l ps → fin.get (copied_all m ps) l ≡ fin.get z k
copies_put z [] m same apart stands one k l h = absurd h
copies_put z (p ∷ ps) m same apart stands one k l h =
    by (λ k l g. copies_put z ps (copied m p.1 (fin.get m p.0))
    (λ k l i. copy_keeps m p.1 (fin.get m p.0) k (λ e. apart k l (inr i) (inl e)) ∙ same k l (inr i))
    (λ k l i t. apart k l (inr i) (inr t)) (λ k l i. stands k l (inr i)) (λ k j l a b. one k j l (inr a) (inr b)) k l g)
    h
  where
    here : ((k l : List ℕ) → IsOneOf k l ps → fin.get (copied_all (copied m p.1 (fin.get m p.0)) ps) l ≡ fin.get z k)
        → k ≡ p.0 → l ≡ p.1 → IsIn l (targets ps) ⊎ (IsIn l (targets ps) → ⊥)
        → fin.get (copied_all (copied m p.1 (fin.get m p.0)) ps) l ≡ fin.get z k
    here ih e f (inl t) =
        let w = is_target ps l t in
        ih w.0 l w.1 ∙ ap (fin.get z) (one w.0 k l (inr w.1) (inl (e, f)))
    here ih e f (inr n) =
        let s = stands p.0 p.1 (inl (refl, refl)) in
        copies_keep (copied m p.1 (fin.get m p.0)) ps l n ∙ copy_puts m p.1 l (fin.get m p.0) s.0 f (same p.0 p.1 (inl (refl, refl)) ∙ s.1)
        ∙ sym s.1 ∙ ap (fin.get z) (sym e)

    by : ((k l : List ℕ) → IsOneOf k l ps → fin.get (copied_all (copied m p.1 (fin.get m p.0)) ps) l ≡ fin.get z k)
        → ((k ≡ p.0) × (l ≡ p.1)) ⊎ IsOneOf k l ps → fin.get (copied_all (copied m p.1 (fin.get m p.0)) ps) l ≡ fin.get z k
    by ih (inl e) = here ih e.0 e.1 (is_in l (targets ps))
    by ih (inr g) = ih k l g

-- The same for the first moves, so for all.
pub copied_stand : (z : Objects) (ps : List Move) → AreFree z ps → (n : ℕ) (k l : List ℕ) → IsOneOf k l (take n ps)
    → fin.get (copied_all z (take n ps)) l ≡ fin.get z k
copied_stand z ps h n k l i =
    copies_put z (take n ps) z (λ k l i. refl)
    (λ k l i t. let w = is_target (take n ps) k t in not_target z ps h k l (one_in_take n k l ps i)
    (in_targets ps w.0 k (one_in_take n w.0 k ps w.1)))
    (λ k l i. h.stands k l (one_in_take n k l ps i)) (λ k j l a b. h.one k j l (one_in_take n k l ps a) (one_in_take n j l ps b)) k l i

pub all_stand : (z : Objects) (ps : List Move) → AreFree z ps → (k l : List ℕ) → IsOneOf k l ps → fin.get (copied_all z ps) l ≡ fin.get z k
all_stand z ps h k l i = copies_put z ps z (λ k l i. refl) (λ k l i t. not_target z ps h k l i t) h.stands h.one k l i

-- ---- the next copy

copied_append : (m : Objects) (ps qs : List Move) → copied_all m (ps ++ qs) ≡ copied_all (copied_all m ps) qs
copied_append m [] qs = refl
copied_append m (p ∷ ps) qs = copied_append (copied m p.1 (fin.get m p.0)) ps qs

more_true : (n l : ℕ) → (nat_lt n l && nat_lt 1 (l - n)) ≡ true → n + 1 < l
more_true n l h = let w = ltb-true 1 (l - n) (and_parts (nat_lt n l) (nat_lt 1 (l - n)) h).1 in omega (arith, w)

more_false : (n l : ℕ) → n < l → (nat_lt n l && nat_lt 1 (l - n)) ≡ false → l ≤ suc n
more_false n l k h = grind (arith, nat_tests, h, k)

pub one_in_drop : (n : ℕ) (ps : List Move) (k l : List ℕ) → IsOneOf k l (drop n ps) → IsOneOf k l ps
one_in_drop zero ps k l i = i
one_in_drop (suc n) [] k l i = absurd i
one_in_drop (suc n) (s ∷ ps) k l i = inr (one_in_drop n ps k l i)

module _ (z : Objects) (ps : List Move) where
  -- the request is the copy of one of them
  pub copy_of_one : (c : Copying) (m : Objects) → IsCopying z ps c m → (k : List ℕ) × (l : List ℕ) × (copy_asks c ≡ CopyKey k l)
      × IsOneOf k l ps
  copy_of_one c m h =
      let some : c.from < length ps = subst (λ n. c.from < n) (ap length h.keys ∙ length-map ps (λ (p : Move). p.0)) h.some in
      let w = some_left c.from ps some in
      let ks : drop c.from c.keys ≡ w.0.0 ∷ sources w.1 = ap (drop c.from) h.keys ∙ drop-map (λ (p : Move). p.0) c.from ps
      ∙ ap sources w.2 in
      let ls : drop c.from c.places ≡ w.0.1 ∷ targets w.1 = ap (drop c.from) h.places ∙ drop-map (λ (p : Move). p.1) c.from ps
      ∙ ap targets w.2 in (
        w.0.0,
        w.0.1,
        (λ i. copy_of (ks i) (ls i)),
        one_in_drop c.from ps w.0.0 w.0.1
            (subst (IsOneOf w.0.0 w.0.1) (sym w.2) (inl (refl, refl))),
      )

  copied_one : (c : Copying) (m : Objects) → IsCopying z ps c m → edited (copy_asks c) m ≡ copied_all z (take (suc c.from) ps)
  copied_one c m h =
      let some : c.from < length ps = subst (λ n. c.from < n) (ap length h.keys ∙ length-map ps (λ (p : Move). p.0)) h.some in
      let w = some_left c.from ps some in
      ap (λ l. edited (copy_of l (drop c.from c.places)) m) (ap (drop c.from) h.keys ∙ drop-map (λ (p : Move). p.0) c.from ps ∙ ap sources
      w.2)
      ∙ ap (λ l. edited (copy_of (w.0.0 ∷ sources w.1) l) m) (ap (drop c.from) h.places ∙ drop-map (λ (p : Move). p.1) c.from ps ∙ ap
      targets w.2)
      ∙ ap (λ m. copied m w.0.1 (fin.get m w.0.0)) h.copied
      ∙ sym (copied_append z (take c.from ps) (w.0 ∷ []))
      ∙ ap (copied_all z) (sym (take_one c.from ps w.0 w.1 w.2))

  step : (b : Bool) (c : Copying) (m : Objects) → has_more c ≡ b → IsCopying z ps c m
      → IsCopied z ps (copied_next b c) (edited (copy_asks c) m)
  step b c m h g = grind (arith, more_true, copied_one, length-map, take_all, more_false)

  -- the step after the reply that S3 must give
  pub copying_goes : (c : Copying) (m : Objects) → IsCopying z ps c m → IsCopied z ps (copied_next (has_more c) c) (edited (copy_asks c) m)
  copying_goes c m h = step (has_more c) c m refl h

fall : (b : Bool) (c : Copying) → has_more c ≡ b → c.from < length c.keys → LessCopies (copied_next b c) (copies_left c)
fall b c h g = grind arith

pub copying_falls : (c : Copying) → c.from < length c.keys → LessCopies (copied_next (has_more c) c) (copies_left c)
copying_falls c h = fall (has_more c) c refl h
