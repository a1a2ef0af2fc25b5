-- Each object is whole while it is moved.
use Rattle.text_and_lists.proofs.Less.{lt_not}
use Rattle.text_and_lists.proofs.Members.{none_some, same_or_other, text_here, text_other}
use Rattle.text_and_lists.specs.Members.{IsIn, RisesFrom}
use Rattle.text_and_lists.specs.Order.{text_cmp, text_total}
use Rattle.bucket_ops.proofs.Below.{gone_in, is_in, kept_out}
use Rattle.fs_rename.proofs.CopyLaws.{all_stand, copied_stand, copies_keep, in_sources, in_targets, is_source, is_target, not_target}
use Rattle.fs_rename.proofs.CopyLaws.{one_in_take}
use Rattle.fs_rename.specs.inner.Copies.{AreFree, IsOneOf, Move, copied_all, sources, targets}
use Rattle.fs_tree.proofs.Begins.{begins_all}
use Rattle.fs_tree.proofs.Dropping.{marker_key}
use Rattle.fs_tree.specs.Changes.{IsMarked, marker_if, parent}
use Rattle.fs_tree.specs.Moves.{IsMove, IsWhole}
use Rattle.fs_tree.specs.Tree.{NoneBelow, marker}
use Rattle.s3_types.specs.Answer.{without}
use Rattle.s3_types.specs.Store.{Objects}
use Rattle.std.proofs.Common.{List, None, Option, Some, ap, arith, inl, inr, refl, subst, suc, sym, take, true, ℕ, [], ◌∙◌, ◌∷◌, ◌≡◌, ◌⊎◌}
use Rattle.std.proofs.lemmas.Bool.{false≢true}
use Rattle.std.specs.List.{take-map}
use Rattle.std.specs.Ordering.{is_lt}
use Rattle.store_frame.proofs.Flat.{behind}
use Rattle.std.specs.FinMap as fin

-- Holds if a key is the marker u, which was put, and nothing was there.
abbrev IsPut : Option (List ℕ) → Objects → Objects → List ℕ → Type 0
IsPut u z m k = (u ≡ Some k) × (fin.get z k ≡ None) × (fin.get m k ≡ Some marker)

-- The moves are under way, or are done and a marker u is put.
pub record AreWhole (u : Option (List ℕ)) (z : Objects) (ps : List Move) (m : Objects) : Type 0 where
  pub moved : (k l : List ℕ) → IsOneOf k l ps → (fin.get m k ≡ fin.get z k) ⊎ ((fin.get m k ≡ None) × (fin.get m l ≡ fin.get z k))
  pub new : (k l : List ℕ) → IsOneOf k l ps → (fin.get m l ≡ None) ⊎ (fin.get m l ≡ fin.get z k)
  pub in_order : (k l j i : List ℕ) → IsOneOf k l ps → IsOneOf j i ps → is_lt (text_cmp j k) ≡ true → fin.get m l ≡ fin.get z k
      → fin.get m i ≡ fin.get z j
  pub all_first : (k l j i : List ℕ) → IsOneOf k l ps → IsOneOf j i ps → fin.get m k ≡ None → fin.get m i ≡ fin.get z j
  pub others : (k : List ℕ) → (IsIn k (sources ps) → ⊥) → (IsIn k (targets ps) → ⊥) → (fin.get m k ≡ fin.get z k) ⊎ IsPut u z m k

-- In rising keys, those before one of the first are among the first.
earlier : (x : List ℕ) (ks : List (List ℕ)) → RisesFrom x ks → (n : ℕ) (k j : List ℕ) → IsIn k (take n ks) → IsIn j ks
    → is_lt (text_cmp j k) ≡ true → IsIn j (take n ks)
earlier x (q ∷ ks) r (suc n) k j h (inl e) l = inl e
earlier x (q ∷ ks) r (suc n) k j (inl e) (inr i) l =
    absurd (false≢true (sym (lt_not text_total q j (behind q j ks r.1 i)) ∙ ap (λ v. is_lt (text_cmp j v)) (sym e) ∙ l))
earlier x (q ∷ ks) r (suc n) k j (inr h) (inr i) l = inr (earlier q ks r.1 n k j h i l)
earlier x [] r (suc n) k j h i l = absurd h
earlier x _ r _ k j h i l = absurd h

module _ (u : Option (List ℕ)) (z : Objects) (ps : List Move) (h : AreFree z ps) where
  -- ---- while keys are copied

  module _ (n : ℕ) where
    abbrev M : Objects
    M = copied_all z (take n ps)

    old_stays : (k : List ℕ) → (IsIn k (targets ps) → ⊥) → fin.get M k ≡ fin.get z k
    old_stays k f = copies_keep z (take n ps) k (λ t. let w = is_target (take n ps) k t in f
        (in_targets ps w.0 k (one_in_take n w.0 k ps w.1)))

    new_copied : (k l : List ℕ) → IsOneOf k l ps → IsIn l (targets (take n ps)) → IsOneOf k l (take n ps)
    new_copied k l i t =
        let w = is_target (take n ps) l t in
        subst (λ v. IsOneOf v l (take n ps)) (h.one w.0 k l (one_in_take n w.0 l ps w.1) i) w.1

    copying_new : (k l : List ℕ) → IsOneOf k l ps → (fin.get M l ≡ None) ⊎ (fin.get M l ≡ fin.get z k)
    copying_new k l i =
        elim (is_in l (targets (take n ps))) [
          | inl t ↦ inr (copied_stand z ps h n k l (new_copied k l i t))
          | inr f ↦ inl (copies_keep z (take n ps) l f ∙ h.free k l i)
        ]

    copying_order : (k l j i : List ℕ) → IsOneOf k l ps → IsOneOf j i ps → is_lt (text_cmp j k) ≡ true → fin.get M l ≡ fin.get z k
        → fin.get M i ≡ fin.get z j
    copying_order k l j i a b less e = by (is_in l (targets (take n ps)))
      where
        first : IsIn k (take n (sources ps)) → IsIn j (sources (take n ps))
        first g = subst (IsIn j) (take-map (λ (p : Move). p.0) n ps) (earlier [] (sources ps) h.rises n k j g (in_sources ps j i b) less)

        found : (w : (l : List ℕ) × IsOneOf j l (take n ps)) → IsOneOf j i (take n ps)
        found w = subst (λ v. IsOneOf j v (take n ps)) (h.only j w.0 i (one_in_take n j w.0 ps w.1) b) w.1

        by : IsIn l (targets (take n ps)) ⊎ (IsIn l (targets (take n ps)) → ⊥) → fin.get M i ≡ fin.get z j
        by (inl t) =
            copied_stand z ps h n j i
            (found (is_source (take n ps) j (first (subst (IsIn k) (sym (take-map (λ (p : Move). p.0) n ps))
            (in_sources (take n ps) k l (new_copied k l a t))))))
        by (inr f) = absurd (none_some (sym e ∙ copies_keep z (take n ps) l f ∙ h.free k l a) (h.stands k l a).1)

    pub whole_copying : AreWhole u z ps M
    whole_copying = record {
      moved = λ k l i. inl (old_stays k (not_target z ps h k l i));
      new = copying_new;
      in_order = copying_order;
      all_first = λ k l j i a b e. absurd (none_some (sym (old_stays k (not_target z ps h k l a)) ∙ e) (h.stands k l a).1);
      others = λ k s t. inl (old_stays k t);
    }

  -- ---- while the old keys are deleted

  module _ (gone : List (List ℕ)) (are : (k : List ℕ) → IsIn k gone → IsIn k (sources ps)) where
    abbrev N : Objects
    N = without (copied_all z ps) gone

    new_stays : (k l : List ℕ) → IsOneOf k l ps → fin.get N l ≡ fin.get z k
    new_stays k l i =
        kept_out (copied_all z ps) gone l
        (λ g. let w = is_source ps l (are l g) in not_target z ps h l w.0 w.1 (in_targets ps k l i))
        ∙ all_stand z ps h k l i

    emptying_moved : (k l : List ℕ) → IsOneOf k l ps → (fin.get N k ≡ fin.get z k) ⊎ ((fin.get N k ≡ None) × (fin.get N l ≡ fin.get z k))
    emptying_moved k l i = elim (is_in k gone) [
      | inl g ↦ inr (gone_in (copied_all z ps) gone k g, new_stays k l i)
      | inr f ↦ inl (kept_out (copied_all z ps) gone k f ∙ copies_keep z ps k (not_target z ps h k l i))
    ]

    pub others_stay : (k : List ℕ) → (IsIn k (sources ps) → ⊥) → (IsIn k (targets ps) → ⊥) → fin.get N k ≡ fin.get z k
    others_stay k s t = kept_out (copied_all z ps) gone k (λ g. s (are k g)) ∙ copies_keep z ps k t

    pub whole_emptying : AreWhole u z ps N
    whole_emptying = record {
      moved = emptying_moved;
      new = λ k l i. inr (new_stays k l i);
      in_order = λ k l j i a b less e. new_stays j i b;
      all_first = λ k l j i a b e. new_stays j i b;
      others = λ k s t. inl (others_stay k s t);
    }

  -- ---- after the marker is put

  abbrev D : Objects
  D = without (copied_all z ps) (sources ps)

  pub new_at_end : (k l : List ℕ) → IsOneOf k l ps → fin.get D l ≡ fin.get z k
  new_at_end k l i = new_stays (sources ps) (λ k g. g) k l i

  pub old_at_end : (k l : List ℕ) → IsOneOf k l ps → fin.get D k ≡ None
  old_at_end k l i = gone_in (copied_all z ps) (sources ps) k (in_sources ps k l i)

  pub others_at_end : (k : List ℕ) → (IsIn k (sources ps) → ⊥) → (IsIn k (targets ps) → ⊥) → fin.get D k ≡ fin.get z k
  others_at_end k s t = others_stay (sources ps) (λ k g. g) k s t

  -- if it is put, nothing was there
  pub was_free : (q : List ℕ) → NoneBelow D q → (IsIn q (sources ps) → ⊥) → fin.get z q ≡ None
  was_free q none apart =
      sym (others_at_end q apart (λ i. let w = is_target ps q i in none_some (none q (begins_all q))
      (new_at_end w.0 q w.1 ∙ (h.stands w.0 q w.1).1)))
      ∙ none q (begins_all q)

  module _ (q : List ℕ) (e : u ≡ Some q) (none : NoneBelow D q) (apart : IsIn q (sources ps) → ⊥) where
    abbrev E : Objects
    E = fin.insert D q marker

    not_new : (k l : List ℕ) → IsOneOf k l ps → l ≡ q → ⊥
    not_new k l i f = none_some (none q (begins_all q)) (ap (fin.get D) (sym f) ∙ new_at_end k l i ∙ (h.stands k l i).1)

    put_new : (k l : List ℕ) → IsOneOf k l ps → fin.get E l ≡ fin.get z k
    put_new k l i = text_other D q l marker (not_new k l i) ∙ new_at_end k l i

    put_old : (k l : List ℕ) → IsOneOf k l ps → fin.get E k ≡ None
    put_old k l i = text_other D q k marker (λ f. apart (subst (λ v. IsIn v (sources ps)) f (in_sources ps k l i))) ∙ old_at_end k l i

    put_others : (k : List ℕ) → (IsIn k (sources ps) → ⊥) → (IsIn k (targets ps) → ⊥) → (fin.get E k ≡ fin.get z k) ⊎ IsPut u z E k
    put_others k s t = elim (same_or_other k q) [
      | inl f ↦ inr (e ∙ ap Some (sym f), ap (fin.get z) f ∙ was_free q none apart, text_here D q k marker f)
      | inr f ↦ inl (text_other D q k marker f ∙ others_at_end k s t)
    ]

    whole_put : AreWhole u z ps E
    whole_put = grind (arith, put_old, put_new, put_others)

  whole_by : (v : Option (List ℕ)) (m : Objects) → u ≡ v → ((q : List ℕ) → v ≡ Some q → IsIn q (sources ps) → ⊥) → IsMarked v D m
      → AreWhole u z ps m
  whole_by v m h g e = grind (arith, whole_emptying, whole_put)

  pub whole_marked : (m : Objects) → ((q : List ℕ) → u ≡ Some q → IsIn q (sources ps) → ⊥) → IsMarked u D m → AreWhole u z ps m
  whole_marked m a g = whole_by u m refl a g

-- ---- with the moves of a path

pub is_whole : (p q : List ℕ) (z m : Objects) (ps : List Move) → ((k l : List ℕ) → IsMove z p q k l → IsOneOf k l ps)
    → ((k l : List ℕ) → IsOneOf k l ps → IsMove z p q k l) → AreWhole (marker_if (parent p)) z ps m → IsWhole p q z m
is_whole p q z m ps to from h = record {
  moved = λ k l i. h.moved k l (to k l i);
  new = λ k l i. h.new k l (to k l i);
  in_order = λ k l j i a b less e. h.in_order k l j i (to k l a) (to j i b) less e;
  all_first = λ k l j i a b e. h.all_first k l j i (to k l a) (to j i b) e;
  files = λ k f e. (elim (h.others k (not_old k e.0) (not_new k e.1)) [
    | inl e ↦ e
    | inr e ↦ absurd
        (false≢true (sym f ∙ marker_key (parent p) k e.0))
  ]);
  markers = λ k e. h.others k (not_old k e.0) (not_new k e.1);
}
  where
    not_old : (k : List ℕ) → ((l : List ℕ) → IsMove z p q k l → ⊥) → IsIn k (sources ps) → ⊥
    not_old k f i = let w = is_source ps k i in f w.0 (from k w.0 w.1)

    not_new : (k : List ℕ) → ((j : List ℕ) → IsMove z p q j k → ⊥) → IsIn k (targets ps) → ⊥
    not_new k f i = let w = is_target ps k i in f w.0 (from w.0 k w.1)
