-- A copy that was stopped is made again.
use Rattle.text_and_lists.specs.Members.{IsIn}
use Rattle.copy_tree.proofs.Moved.{begins_rest, is_move, is_new, move_below, moved_rest, not_above, path_not_new, source_not_new}
use Rattle.dir_markers.specs.Markers.{marker_of}
use Rattle.fs_tree.specs.Copies.{CopiesResume, CopiesTree, IsCopiedInPart, MayCopy, to_target}
use Rattle.fs_tree.specs.Moves.{IsMove}
use Rattle.fs_tree.specs.Tree.{IsDirectory, NoFiles}
use Rattle.fs_tree.specs.declared.copy.CopyCount.{CopyCount}
use Rattle.s3_types.specs.Pages.{begins}
use Rattle.s3_types.specs.Store.{Objects}
use Rattle.std.proofs.Common.{List, None, arith, inl, inr, refl, sym, true, ℕ, [], ◌∙◌, ◌∷◌, ◌≡◌, ◌⊎◌}
use Rattle.std.specs.FinMap as fin

module _ (x : ℕ) (p : List ℕ) (y : ℕ) (t : List ℕ) (z m : Objects) (may : MayCopy z (x ∷ p) (y ∷ t))
    (part : IsCopiedInPart (x ∷ p) (y ∷ t) z m) where
  source_kept : (k : List ℕ) → begins (marker_of (x ∷ p)) k ≡ true → fin.get m k ≡ fin.get z k
  source_kept k b = part.others k (λ j i. source_not_new x p y t may.place.source.apart z k j may.place.source.directory b i)

  directory : IsDirectory m (x ∷ p)
  directory =
      let h = may.place.source.directory in
      let s = h.1 in
      (part.others (x ∷ p) (λ j i. path_not_new x p y t may.place.source.apart z j h i) ∙ h.0, (s.0, s.1, s.2, source_kept s.0 s.1 ∙ s.3))

  back : (k l : List ℕ) → IsMove m (x ∷ p) (y ∷ t) k l → IsMove z (x ∷ p) (y ∷ t) k l
  back k l i =
      let w = moved_rest x p y t m k l directory i in
      is_move x p y t z k l may.place.source.directory (w.0.0, sym (source_kept k (begins_rest (marker_of (x ∷ p)) k w.1.0 w.1.1)) ∙ w.0.1)
      w.1

  forth : (k l : List ℕ) → IsMove z (x ∷ p) (y ∷ t) k l → IsMove m (x ∷ p) (y ∷ t) k l
  forth k l i =
      let w = moved_rest x p y t z k l may.place.source.directory i in
      is_move x p y t m k l directory (w.0.0, source_kept k (begins_rest (marker_of (x ∷ p)) k w.1.0 w.1.1) ∙ w.0.1) w.1

  -- a key that is copied is as it was
  moved_kept : (k l : List ℕ) → IsMove z (x ∷ p) (y ∷ t) k l → fin.get m k ≡ fin.get z k
  moved_kept k l i = let w = (moved_rest x p y t z k l may.place.source.directory i).1 in source_kept k
      (begins_rest (marker_of (x ∷ p)) k w.0 w.1)

  free : (ks : List (List ℕ)) → ((a : List ℕ) → IsIn a ks → IsIn a (to_target (y ∷ t))) → NoFiles z ks → NoFiles m ks
  free [] h n = tt
  free (a ∷ ks) h n = (
    part.others a (λ j i. not_above x p y t a (h a (inl refl)) (move_below x p y t z j a may.place.source.directory i)) ∙ n.0,
    free ks (λ b i. h b (inr i)) n.1,
  )

  agree : (k l : List ℕ) → IsMove z (x ∷ p) (y ∷ t) k l → (fin.get z l ≡ None) ⊎ (fin.get z l ≡ fin.get z k) → (fin.get m l ≡ None)
      ⊎ (fin.get m l ≡ fin.get m k)
  agree k l i (inl n) = elim (part.new k l i n) [ inl g ↦ inl g | inr g ↦ inr (g ∙ sym (moved_kept k l i)) ]
  agree k l i (inr e) =
      let s = (moved_rest x p y t z k l may.place.source.directory i).0 in
      inr (part.old l (s.0, e ∙ s.1) ∙ e ∙ sym (moved_kept k l i))

  may_again : MayCopy m (x ∷ p) (y ∷ t)
  may_again = record {
    place = record {
      source = record { apart = may.place.source.apart; directory = directory };
      free = free (to_target (y ∷ t)) (λ a i. i) may.place.free;
    };
    fit = λ k l i. may.fit k l (back k l i);
    agree = λ k l i. agree k l (back k l i) (may.agree k l (back k l i));
  }

  same_end : (n o : Objects) (c d : CopyCount) → CopiesTree (x ∷ p) (y ∷ t) m c n → CopiesTree (x ∷ p) (y ∷ t) z d o → (q : List ℕ)
      → fin.get n q ≡ fin.get o q
  same_end n o c d a b q = elim (is_new x p y t z q may.place.source.directory) [
    | inl w ↦ a.copies w.0 q (forth w.0 q w.1) ∙ moved_kept w.0 q w.1 ∙ sym (b.copies w.0 q w.1)
    | inr f ↦ a.others q (λ k i. f k (back k q i)) ∙ part.others q f ∙ sym (b.others q f)
  ]

again : (p t : List ℕ) (z m : Objects) → MayCopy z p t → IsCopiedInPart p t z m → MayCopy m p t
again p t z m h g = grind (arith, may_again)

same : (p t : List ℕ) (z m n o : Objects) (c d : CopyCount) → MayCopy z p t → IsCopiedInPart p t z m → CopiesTree p t m c n
    → CopiesTree p t z d o → (q : List ℕ) → fin.get n q ≡ fin.get o q
same [] t z m n o c d h g a b q = absurd (h.place.source.apart (inl refl))
same (x ∷ p) [] z m n o c d h g a b q = absurd (h.place.source.apart (inr refl))
same (x ∷ p) (y ∷ t) z m n o c d h g a b q = same_end x p y t z m h g n o c d a b q

pub copies_resume : CopiesResume
copies_resume = record { again = again; same = same }
