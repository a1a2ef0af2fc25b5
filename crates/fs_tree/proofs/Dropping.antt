-- Deleting a file or a directory, in the tree.
use Rattle.text_and_lists.proofs.Members.{false_true, none_some, same_or_other, some_is, text_gone, text_left, text_other, true_or_false}
use Rattle.dir_markers.specs.Markers.{marker_of}
use Rattle.fs_tree.proofs.Above.{above_parent, parent_begins}
use Rattle.fs_tree.proofs.Begins.{begins_all, begins_length, begins_marker, begins_trans, marker_at, marker_is, one_begins}
use Rattle.fs_tree.proofs.Making.{dir_by, dir_each, dir_of, has_marker, put_stands, put_was}
use Rattle.fs_tree.specs.Changes.{DropsDir, DropsFile, IsMarked, IsWithoutBelow, marker_if, parent}
use Rattle.fs_tree.specs.Moves.{IsAtOrBelow}
use Rattle.fs_tree.specs.Tree.{HasDir, SomeBelow, Stands, is_marker, marker}
use Rattle.s3_types.specs.Pages.{begins}
use Rattle.s3_types.specs.Store.{Objects}
use Rattle.std.proofs.Common.{List, None, Option, Some, ap, arith, false, inl, inr, length-append, refl, subst, sym, true, ℕ, [], ◌∙◌, ◌∷◌}
use Rattle.std.proofs.Common.{◌≡◌, ◌⊎◌}
use Rattle.std.proofs.lemmas.Bool.{false≢true}
use Rattle.std.specs.FinMap as fin

-- ---- the marker that is put if nothing is left

pub if_marker : (u k : List ℕ) → marker_if u ≡ Some k → marker_of u ≡ k
if_marker u k h = grind arith

-- An object that exists afterwards existed before, or is the marker.
pub marked_was : (u : Option (List ℕ)) (n m : Objects) → IsMarked u n m → (k : List ℕ) → Stands m k → Stands n k ⊎ (u ≡ Some k)
marked_was None n m g k h = inl (subst (λ m. Stands m k) g h)
marked_was (Some u) n m (inl g) k h = inl (subst (λ m. Stands m k) g.1 h)
marked_was (Some u) n m (inr g) k h = elim (put_was n u k marker (subst (λ m. Stands m k) g.1 h))
    [ inl e ↦ inr (ap Some (sym e)) | inr s ↦ inl s ]

pub marked_stands : (u : Option (List ℕ)) (n m : Objects) → IsMarked u n m → (k : List ℕ) → Stands n k → Stands m k
marked_stands None n m g k h = subst (λ m. Stands m k) (sym g) h
marked_stands (Some u) n m (inl g) k h = subst (λ m. Stands m k) (sym g.1) h
marked_stands (Some u) n m (inr g) k h = subst (λ m. Stands m k) (sym g.1) (put_stands n u k marker h)

-- Other keys are as before.
pub marked_other : (u : Option (List ℕ)) (n m : Objects) → IsMarked u n m → (k : List ℕ) → (u ≡ Some k → ⊥) → fin.get m k ≡ fin.get n k
marked_other u n m h k g = grind (arith, text_other)

pub marker_key : (u k : List ℕ) → marker_if u ≡ Some k → is_marker k ≡ true
marker_key u k e = ap is_marker (sym (if_marker u k e)) ∙ marker_is u

pub marked_files : (u : List ℕ) (n m : Objects) → IsMarked (marker_if u) n m → (k : List ℕ) → is_marker k ≡ false
    → fin.get m k ≡ fin.get n k
marked_files u n m g k f = marked_other (marker_if u) n m g k (λ e. false≢true (sym f ∙ marker_key u k e))

-- ---- the path above

-- Only the root's marker is a prefix of the root's marker.
pub not_above_root : (y : ℕ) (q : List ℕ) → begins (marker_of (y ∷ q)) (marker_of []) ≡ true → ⊥
not_above_root y q h = let l = begins_length (marker_of (y ∷ q)) (marker_of []) h in omega (arith, l, length-append q (47 ∷ []))

module _ (p : List ℕ) where
  -- The directory above still exists, and so do those above it.
  pub above_kept : (u : List ℕ) → parent p ≡ u → (n m : Objects) → IsMarked (marker_if u) n m → (q : List ℕ) → begins (marker_of q) p ≡ true
      → HasDir m q
  above_kept u e n m g [] b = tt
  above_kept [] e n m g (y ∷ q) b = absurd (not_above_root y q (rw e at (above_parent (y ∷ q) p b)))
  above_kept (x ∷ u) e n m g (y ∷ q) b = elim g [
    | inl h ↦ rw h.1 (dir_of n (y ∷ q) (marker_of (x ∷ u)) up h.0)
    | inr h ↦ rw h.1 (dir_of (fin.insert n (marker_of (x ∷ u)) marker) (y ∷ q) (marker_of (x ∷ u)) up (has_marker n (x ∷ u)))
  ]
    where
      up : begins (marker_of (y ∷ q)) (marker_of (x ∷ u)) ≡ true
      up = rw e at (above_parent (y ∷ q) p b)

  -- If the marker above a path begins with a marker, the path does too.
  pub through : (u : List ℕ) → parent p ≡ u → (k q : List ℕ) → marker_if u ≡ Some k → begins (marker_of q) k ≡ true
      → begins (marker_of q) p ≡ true
  through u h k q g e = grind (arith, begins_trans, parent_begins)

-- ---- a file

drop_was : (z : Objects) (p k : List ℕ) → Stands (fin.remove z p) k → Stands z k
drop_was z p k h = elim (same_or_other k p) [
  | inl e ↦ absurd (none_some (text_gone z p k e) h.1)
  | inr n ↦ (h.0, sym (text_left z p k n) ∙ h.1)
]

module _ (p : List ℕ) (z m : Objects) (g : IsMarked (marker_if (parent p)) (fin.remove z p) m) where
  -- After a deletion of a file, the file is gone in the tree, and nothing else has changed.
  pub drops_file : is_marker p ≡ false → Stands z p → DropsFile p z m
  drops_file f s = record {
    gone = marked_files (parent p) (fin.remove z p) m g p f ∙ text_gone z p p refl;
    files = λ k i n. marked_files (parent p) (fin.remove z p) m g k i ∙ text_left z p k n;
    kept = λ q. dir_each z m q (λ k b s. elim (same_or_other k p) [
      | inl e ↦ above_kept p (parent p) refl (fin.remove z p) m g q (ap (begins (marker_of q)) (sym e) ∙ b)
      | inr n ↦ dir_by m q k b (marked_stands (marker_if (parent p)) (fin.remove z p) m g k (s.0, text_left z p k n ∙ s.1))
    ]);
    only = λ q. dir_each m z q (λ k b v. elim (marked_was (marker_if (parent p)) (fin.remove z p) m g k v) [
      | inl v ↦ dir_by z q k b (drop_was z p k v)
      | inr e ↦ dir_by z q p (through p (parent p) refl k q e b) s
    ]);
  }

-- ---- a directory

-- The marker above a path is not below the path.
pub marker_not_below : (x : ℕ) (p u k : List ℕ) → parent (x ∷ p) ≡ u → marker_if u ≡ Some k → begins (marker_of (x ∷ p)) k ≡ true → ⊥
marker_not_below x p [] k e f b = absurd (cc)
marker_not_below x p (v ∷ u) k e f b =
    let l = begins_length (marker_of (x ∷ p)) (marker_of (v ∷ u)) (ap (begins (marker_of (x ∷ p))) (some_is f) ∙ b) in
    let s = begins_length (marker_of (v ∷ u)) (x ∷ p) (parent_begins (x ∷ p) v u e) in
    omega (arith, l, s, length-append p (47 ∷ []))

-- If d is neither x ∷ p nor below it, and some key begins with the markers of both, then x ∷ p is below d.
pub stands_above : (x : ℕ) (p d k : List ℕ) → (IsAtOrBelow (x ∷ p) d → ⊥) → begins (marker_of d) k ≡ true
    → begins (marker_of (x ∷ p)) k ≡ true
    → begins (marker_of d) (x ∷ p) ≡ true
stands_above x p d k f h t = elim (one_begins (marker_of d) (marker_of (x ∷ p)) k h t) [
  | inl i ↦ elim (marker_at d (x ∷ p) i) [ inl e ↦ absurd (f (inl e)) | inr b ↦ b ]
  | inr i ↦ elim (marker_at (x ∷ p) d i) [ inl e ↦ absurd (f (inl (sym e))) | inr b ↦ absurd (f (inr b)) ]
]

module _ (x : ℕ) (p : List ℕ) (z n m : Objects) (w : IsWithoutBelow (marker_of (x ∷ p)) z n) (g : IsMarked (marker_if (parent (x ∷ p))) n m)
  where
    abbrev Q : List ℕ
    Q = marker_of (x ∷ p)

    gone_below : (k : List ℕ) → begins Q k ≡ true → fin.get m k ≡ None
    gone_below k b = marked_other (marker_if (parent (x ∷ p))) n m g k (λ e. marker_not_below x p (parent (x ∷ p)) k refl e b) ∙ w.gone k b

    stood : (k : List ℕ) → Stands n k → Stands z k
    stood k h = elim (true_or_false (begins Q k)) [ inl t ↦ absurd (none_some (w.gone k t) h.1) | inr f ↦ (h.0, sym (w.others k f) ∙ h.1) ]

    no_dir : (q : List ℕ) → begins Q (marker_of q) ≡ true → HasDir m q → ⊥
    no_dir [] b h = let l = begins_length Q (marker_of []) b in omega (arith, l, length-append p (47 ∷ []))
    no_dir (y ∷ q) b h = none_some (gone_below h.0 (begins_trans Q (marker_of (y ∷ q)) h.0 b h.1)) h.3

    dirs_kept : (q : List ℕ) → begins Q (marker_of q) ≡ false → HasDir z q → HasDir m q
    dirs_kept q b = dir_each z m q (λ k i s. elim (true_or_false (begins Q k)) [
      | inl t ↦ above_kept (x ∷ p) (parent (x ∷ p)) refl n m g q (stands_above x p q k apart i t)
      | inr f ↦ dir_by m q k i (marked_stands (marker_if (parent (x ∷ p))) n m g k (s.0, w.others k f ∙ s.1))
    ])
      where
        apart : IsAtOrBelow (x ∷ p) q → ⊥
        apart (inl e) = false_true b (ap (λ v. begins Q (marker_of v)) e ∙ begins_all Q)
        apart (inr i) = false_true b (begins_trans Q q (marker_of q) i (begins_marker q))

    -- After a deletion of a directory with everything below it, it is gone in the tree, and nothing else has changed.
    pub drops_dir : SomeBelow z Q → DropsDir (x ∷ p) z m
    drops_dir d = record {
      below = gone_below;
      files = λ k i b. marked_files (parent (x ∷ p)) n m g k i ∙ w.others k b;
      gone = λ q b h. no_dir q b h;
      kept = dirs_kept;
      only = λ q. dir_each m z q (λ k i s. elim (marked_was (marker_if (parent (x ∷ p))) n m g k s) [
        | inl s ↦ dir_by z q k i (stood k s)
        | inr e ↦ dir_of z q Q (begins_trans (marker_of q) (x ∷ p) Q (through (x ∷ p) (parent (x ∷ p)) refl k q e i)
            (begins_marker (x ∷ p)))
            d
      ]);
    }
