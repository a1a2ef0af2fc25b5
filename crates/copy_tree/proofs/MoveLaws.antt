-- The moves of a directory, in order, and those of them whose new key exists or is absent.
use Rattle.text_and_lists.proofs.Less.{lt}
use Rattle.text_and_lists.proofs.Members.{none_or_some, none_some}
use Rattle.text_and_lists.specs.Members.{IsIn, RisesFrom}
use Rattle.text_and_lists.specs.Order.{text_cmp}
use Rattle.bucket_ops.proofs.Below.{below_stands, is_in}
use Rattle.bucket_ops.proofs.Rising.{sorted}
use Rattle.bucket_ops.specs.Walking.{all_below, keys_below}
use Rattle.copy_tree.proofs.Moved.{move_below, moved_rest, one_source}
use Rattle.copy_tree.proofs.PartLaws.{all_shown, kept_each, kept_has, sources_rise, targets_rise}
use Rattle.copy_tree.specs.code.Copy.{CopyPaths}
use Rattle.copy_tree.specs.inner.Copy.{count_of}
use Rattle.copy_tree.specs.inner.Meaning.{absent, all_parts, moves, standing}
use Rattle.dir_markers.specs.Markers.{marker_of}
use Rattle.fs_ops.proofs.Showing.{cmp_behind}
use Rattle.fs_rename.proofs.CopyLaws.{all_stand, copied_stand, copies_keep, in_targets, is_target, one_in_take}
use Rattle.fs_rename.proofs.NewKeys.{new_is}
use Rattle.fs_rename.proofs.Placed.{dir_from, dir_to, move_of, sources_to}
use Rattle.fs_rename.proofs.Whole.{whole_copying}
use Rattle.fs_rename.specs.inner.Copies.{AreFree, IsOneOf, copied_all, moves_to, sources, targets}
use Rattle.fs_rename.specs.Keys.{new_key}
use Rattle.fs_tree.proofs.Moving.{rest_after}
use Rattle.fs_tree.specs.Copies.{CopiesTree, IsCopiedInPart, MayCopy}
use Rattle.fs_tree.specs.MarkerTool.{AreAll}
use Rattle.fs_tree.specs.Moves.{IsMove}
use Rattle.fs_tree.specs.Tree.{IsDirectory, Stands}
use Rattle.s3_types.specs.Pages.{begins}
use Rattle.s3_types.specs.Store.{Objects}
use Rattle.s3_types.specs.declared.object.Object.{Object}
use Rattle.std.proofs.Common.{ap, inl, inr, refl, subst, sym, ◌∙◌}
use Rattle.std.specs.Ordering.{is_lt}
use Rattle.std.specs.Prelude.{List, None, Some, false, take, true, ℕ, [], ◌++◌, ◌∷◌, ◌≡◌, ◌⊎◌}
use Rattle.store_frame.proofs.Flat.{listed_rises}
use Rattle.std.specs.FinMap as fin

-- New keys are in the order of their keys.
module _ (P Q : List ℕ) where
  new_rise : (r : List ℕ) (ks : List (List ℕ)) → ((k : List ℕ) → IsIn k ks → begins P k ≡ true) → RisesFrom (P ++ r) ks
      → RisesFrom (Q ++ r) (targets (moves_to P Q ks))
  new_rise r [] b h = tt
  new_rise r (k ∷ ks) b h =
      let w = rest_after P k (b k (inl refl)) in
      let e : new_key P Q k ≡ Q ++ w.0 = ap (new_key P Q) w.1 ∙ new_is P Q w.0 in
      let old : lt text_cmp r w.0 ≡ true = sym (ap is_lt (cmp_behind P r w.0)) ∙ ap (lt text_cmp (P ++ r)) (sym w.1) ∙ h.0 in (
        ap (lt text_cmp (Q ++ r)) e ∙ ap is_lt (cmp_behind Q r w.0) ∙ old,
        subst (λ v. RisesFrom v (targets (moves_to P Q ks))) (sym e) (new_rise w.0 ks (λ j i. b j (inr i))
            (subst (λ v. RisesFrom v ks) w.1 h.1)),
      )

module _ (z : Objects) (x : ℕ) (p : List ℕ) (y : ℕ) (t : List ℕ) where
  abbrev O : CopyPaths
  O = record { source = x ∷ p; target = y ∷ t }

  all_rise : (ks : List (List ℕ)) → ((k : List ℕ) → IsIn k ks → begins (marker_of (x ∷ p)) k ≡ true) → RisesFrom [] ks
      → RisesFrom [] (targets (moves_to (marker_of (x ∷ p)) (marker_of (y ∷ t)) ks))
  all_rise [] b h = tt
  all_rise (k ∷ ks) b h =
      let w = rest_after (marker_of (x ∷ p)) k (b k (inl refl)) in
      let e : new_key (marker_of (x ∷ p)) (marker_of (y ∷ t)) k ≡ marker_of (y ∷ t) ++ w.0 = ap
      (new_key (marker_of (x ∷ p)) (marker_of (y ∷ t))) w.1 ∙ new_is (marker_of (x ∷ p)) (marker_of (y ∷ t)) w.0 in (
        ap (lt text_cmp []) e,
        subst (λ v. RisesFrom v (targets (moves_to (marker_of (x ∷ p)) (marker_of (y ∷ t)) ks))) (sym e)
            (new_rise (marker_of (x ∷ p)) (marker_of (y ∷ t)) w.0 ks (λ j i. b j (inr i)) (subst (λ v. RisesFrom v ks) w.1 h.1)),
      )

  places_rise : RisesFrom [] (targets (moves O z))
  places_rise = all_rise (keys_below (marker_of (x ∷ p)) z) (λ k i. (below_stands (marker_of (x ∷ p)) z k i).0)
      (listed_rises (marker_of (x ∷ p)) [] z)

  keys_rise : RisesFrom [] (sources (moves O z))
  keys_rise = subst (RisesFrom []) (sym (sources_to (marker_of (x ∷ p)) (marker_of (y ∷ t)) (keys_below (marker_of (x ∷ p)) z)))
      (listed_rises (marker_of (x ∷ p)) [] z)

  pub standing_rise : RisesFrom [] (targets (standing O z))
  standing_rise = targets_rise true [] (moves O z) (all_below (marker_of (y ∷ t)) z) places_rise

  module _ (d : IsDirectory z (x ∷ p)) where
    pub to_move : (k l : List ℕ) → IsMove z (x ∷ p) (y ∷ t) k l → IsOneOf k l (moves O z)
    to_move k l m = dir_to z x p y t d k l m

    pub from_move : (k l : List ℕ) → IsOneOf k l (moves O z) → IsMove z (x ∷ p) (y ∷ t) k l
    from_move k l i = dir_from z x p y t d k l i

    below : RisesFrom [] (targets (moves O z)) × ((l : List ℕ) → IsIn l (targets (moves O z)) → begins (marker_of (y ∷ t)) l ≡ true)
    below = (places_rise, λ l i. let w = is_target (moves O z) l i in move_below x p y t z w.0 l d (from_move w.0 l w.1))

    -- the moves whose new key exists, and those whose new key is absent
    pub standing_each : (k l : List ℕ) → IsOneOf k l (standing O z) → IsMove z (x ∷ p) (y ∷ t) k l × Stands z l
    standing_each k l i =
        let w = kept_each (marker_of (y ∷ t)) z true [] (moves O z) (all_below (marker_of (y ∷ t)) z) below (all_shown y (t ++ 47 ∷ []) z) k
        l i in
        (from_move k l w.0, w.1)

    pub standing_has : (k l : List ℕ) → IsMove z (x ∷ p) (y ∷ t) k l → Stands z l → IsOneOf k l (standing O z)
    standing_has k l m s = kept_has (marker_of (y ∷ t)) z true [] (moves O z) (all_below (marker_of (y ∷ t)) z) below
        (all_shown y (t ++ 47 ∷ []) z) k l (to_move k l m) s

    pub absent_each : (k l : List ℕ) → IsOneOf k l (absent O z) → IsMove z (x ∷ p) (y ∷ t) k l × (fin.get z l ≡ None)
    absent_each k l i =
        let w = kept_each (marker_of (y ∷ t)) z false [] (moves O z) (all_below (marker_of (y ∷ t)) z) below (all_shown y (t ++ 47 ∷ []) z)
        k l i in
        (from_move k l w.0, w.1)

    pub absent_has : (k l : List ℕ) → IsMove z (x ∷ p) (y ∷ t) k l → fin.get z l ≡ None → IsOneOf k l (absent O z)
    absent_has k l m n = kept_has (marker_of (y ∷ t)) z false [] (moves O z) (all_below (marker_of (y ∷ t)) z) below
        (all_shown y (t ++ 47 ∷ []) z) k l (to_move k l m) n

    pub absent_free : AreFree z (absent O z)
    absent_free = record {
      stands = λ k l i. (moved_rest x p y t z k l d (absent_each k l i).0).0;
      free = λ k l i. (absent_each k l i).1;
      one = λ k j l a b. one_source x p y t z k j l d (absent_each k l a).0 (absent_each j l b).0;
      only = λ k l i a b. one_target k l i (to_move k l (absent_each k l a).0) (to_move k i (absent_each k i b).0);
      rises = sources_rise false [] (moves O z) (all_below (marker_of (y ∷ t)) z) keys_rise;
    }
      where
        one_target : (k l i : List ℕ) → IsOneOf k l (moves O z) → IsOneOf k i (moves O z) → l ≡ i
        one_target k l i a b =
            (move_of (marker_of (x ∷ p)) (marker_of (y ∷ t)) (keys_below (marker_of (x ∷ p)) z) k l a).1
            ∙ sym (move_of (marker_of (x ∷ p)) (marker_of (y ∷ t)) (keys_below (marker_of (x ∷ p)) z) k i b).1

    -- ---- while they are copied

    -- what existed, and what is no new key, is not changed
    not_touched : (n : ℕ) (q : List ℕ) → ((k : List ℕ) → IsOneOf k q (absent O z) → ⊥)
        → fin.get (copied_all z (take n (absent O z))) q ≡ fin.get z q
    not_touched n q f = copies_keep z (take n (absent O z)) q (λ i. let w = is_target (take n (absent O z)) q i in f w.0
        (one_in_take n w.0 q (absent O z) w.1))

    -- the copies come in the order of their keys
    order : MayCopy z (x ∷ p) (y ∷ t) → (n : ℕ) (k l j i : List ℕ) → IsMove z (x ∷ p) (y ∷ t) k l → IsMove z (x ∷ p) (y ∷ t) j i
        → fin.get z l ≡ None
        → is_lt (text_cmp j k) ≡ true → fin.get (copied_all z (take n (absent O z))) l ≡ fin.get z k
        → fin.get (copied_all z (take n (absent O z))) i ≡ fin.get z j
    order may n k l j i a b e less copied = by (none_or_some (fin.get z i))
      where
        by : (fin.get z i ≡ None) ⊎ ((v : Object) × (fin.get z i ≡ Some v)) → fin.get (copied_all z (take n (absent O z))) i ≡ fin.get z j
        by (inl f) = (whole_copying None z (absent O z) absent_free n).in_order k l j i (absent_has k l a e) (absent_has j i b f) less
            copied
        by (inr s) =
            not_touched n i (λ k q. none_some (absent_each k i q).1 s.1)
            ∙ (elim (may.agree j i b) [ inl f ↦ absurd (none_some f s.1) | inr g ↦ g ])

    pub in_part : MayCopy z (x ∷ p) (y ∷ t) → (n : ℕ) → IsCopiedInPart (x ∷ p) (y ∷ t) z (copied_all z (take n (absent O z)))
    in_part may n = record {
      new = λ k l m e. by k l m e (is_in l (targets (take n (absent O z))));
      in_order = order may n;
      old = λ q s. not_touched n q (λ k i. none_some (absent_each k q i).1 s.1);
      others = λ q f. not_touched n q (λ k i. f k (absent_each k q i).0);
    }
      where
        by : (k l : List ℕ) → IsMove z (x ∷ p) (y ∷ t) k l → fin.get z l ≡ None → IsIn l (targets (take n (absent O z)))
            ⊎ (IsIn l (targets (take n (absent O z))) → ⊥)
            → (fin.get (copied_all z (take n (absent O z))) l ≡ None) ⊎ (fin.get (copied_all z (take n (absent O z))) l ≡ fin.get z k)
        by k l m e (inr f) = inl (copies_keep z (take n (absent O z)) l f ∙ e)
        by k l m e (inl i) =
            let w = is_target (take n (absent O z)) l i in
            let one = one_source x p y t z w.0 k l d (absent_each w.0 l (one_in_take n w.0 l (absent O z) w.1)).0 m in
            inr (copied_stand z (absent O z) absent_free n w.0 l w.1 ∙ ap (fin.get z) one)

    -- ---- at the end

    all_absent : AreAll (λ l. (k : List ℕ) × IsMove z (x ∷ p) (y ∷ t) k l × (fin.get z l ≡ None)) (targets (absent O z))
    all_absent = record {
      each = λ l i. let w = is_target (absent O z) l i in let m = absent_each w.0 l w.1 in (w.0, m.0, m.1);
      all = λ l m. in_targets (absent O z) m.0 l (absent_has m.0 l m.1 m.2);
      rises = sorted [] (targets (absent O z)) (targets_rise false [] (moves O z) (all_below (marker_of (y ∷ t)) z) places_rise);
    }

    all_standing : AreAll (λ l. (k : List ℕ) × IsMove z (x ∷ p) (y ∷ t) k l × Stands z l) (targets (standing O z))
    all_standing = record {
      each = λ l i. let w = is_target (standing O z) l i in let m = standing_each w.0 l w.1 in (w.0, m.0, m.1);
      all = λ l m. in_targets (standing O z) m.0 l (standing_has m.0 l m.1 m.2);
      rises = sorted [] (targets (standing O z)) standing_rise;
    }

    pub tree_copied : MayCopy z (x ∷ p) (y ∷ t) → CopiesTree (x ∷ p) (y ∷ t) z (count_of (all_parts O z)) (copied_all z (absent O z))
    tree_copied may = record {
      absent = targets (absent O z);
      stood = targets (standing O z);
      all_absent = all_absent;
      all_stood = all_standing;
      copied = refl;
      skipped = refl;
      copies = λ k l m. by k l m (may.agree k l m) (none_or_some (fin.get z l));
      others = λ q f. copies_keep z (absent O z) q (λ i. let w = is_target (absent O z) q i in f w.0 (absent_each w.0 q w.1).0);
    }
      where
        by : (k l : List ℕ) → IsMove z (x ∷ p) (y ∷ t) k l → (fin.get z l ≡ None) ⊎ (fin.get z l ≡ fin.get z k) → (fin.get z l ≡ None)
            ⊎ ((v : Object) × (fin.get z l ≡ Some v))
            → fin.get (copied_all z (absent O z)) l ≡ fin.get z k
        by k l m a (inl n) = all_stand z (absent O z) absent_free k l (absent_has k l m n)
        by k l m (inl n) (inr s) = absurd (none_some n s.1)
        by k l m (inr e) (inr s) = copies_keep z (absent O z) l (λ i. let w = is_target (absent O z) l i in none_some
            (absent_each w.0 l w.1).1 s.1) ∙ e
