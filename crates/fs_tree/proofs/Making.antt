-- Making a directory, seen in the tree.
use Rattle.text_and_lists.proofs.Members.{same_or_other, text_here, text_other}
use Rattle.text_and_lists.specs.Members.{IsIn}
use Rattle.dir_markers.specs.Markers.{keys_above, marker_of}
use Rattle.fs_tree.proofs.Above.{above_begins, above_marker, begins_above}
use Rattle.fs_tree.proofs.Begins.{begins_all, begins_trans, marker_at, marker_is, no_empty}
use Rattle.fs_tree.specs.Answers.{PutsDir}
use Rattle.fs_tree.specs.Changes.{MakesDirs}
use Rattle.fs_tree.specs.Tree.{HasDir, SomeBelow, Stands, is_marker, marker}
use Rattle.s3_types.specs.Pages.{begins}
use Rattle.s3_types.specs.Store.{Objects}
use Rattle.s3_types.specs.declared.object.Object.{Object}
use Rattle.std.proofs.Common.{List, ap, arith, inl, inr, refl, subst, sym, true, ℕ, [], ◌∙◌, ◌∷◌, ◌≡◌, ◌⊎◌}
use Rattle.std.proofs.lemmas.Bool.{false≢true}
use Rattle.std.specs.FinMap as fin

-- An existing object still exists after a put.
pub put_stands : (z : Objects) (k q : List ℕ) (v : Object) → Stands z q → Stands (fin.insert z k v) q
put_stands z k q v h = elim (same_or_other q k) [ inl e ↦ (v, text_here z k q v e) | inr n ↦ (h.0, text_other z k q v n ∙ h.1) ]

pub put_was : (z : Objects) (k q : List ℕ) (v : Object) → Stands (fin.insert z k v) q → (q ≡ k) ⊎ Stands z q
put_was z k q v h = elim (same_or_other q k) [ inl e ↦ inl e | inr n ↦ inr (h.0, sym (text_other z k q v n) ∙ h.1) ]

-- If something is below a path, the path and those above it are directories.
pub dir_of : (m : Objects) (q p : List ℕ) → begins (marker_of q) p ≡ true → SomeBelow m p → HasDir m q
dir_of m [] p b h = tt
dir_of m (x ∷ q) p b h = (h.0, begins_trans (marker_of (x ∷ q)) p h.0 b h.1, h.2, h.3)

-- A directory is still one if each key that made it one still does.
pub dir_each : (z m : Objects) (q : List ℕ) → ((k : List ℕ) → begins (marker_of q) k ≡ true → Stands z k → HasDir m q) → HasDir z q
    → HasDir m q
dir_each z m [] f h = tt
dir_each z m (x ∷ q) f h = f h.0 h.1 (h.2, h.3)

-- An existing key below a path makes the path a directory.
pub dir_by : (m : Objects) (q k : List ℕ) → begins (marker_of q) k ≡ true → Stands m k → HasDir m q
dir_by m q k h g = grind arith

pub dir_more : (z m : Objects) → ((k : List ℕ) → Stands z k → Stands m k) → (q : List ℕ) → HasDir z q → HasDir m q
dir_more z m f q = dir_each z m q (λ k b s. dir_by m q k b (f k s))

pub has_marker : (z : Objects) (p : List ℕ) → SomeBelow (fin.insert z (marker_of p) marker) (marker_of p)
has_marker z p = (marker_of p, begins_all (marker_of p), marker, text_here z (marker_of p) (marker_of p) marker refl)

only_put : (z : Objects) (p q : List ℕ) → HasDir (fin.insert z (marker_of p) marker) q → HasDir z q ⊎ IsIn q (p ∷ keys_above p)
only_put z p [] h = inl tt
only_put z p (x ∷ q) h = elim (put_was z (marker_of p) h.0 marker (h.2, h.3)) [
  | inl e ↦ inr (elim (marker_at (x ∷ q) p (ap (begins (marker_of (x ∷ q))) (sym e) ∙ h.1))
      [ inl i ↦ inl i | inr b ↦ inr (begins_above (x ∷ q) p b) ])
  | inr s ↦ inl (h.0, h.1, s.0, s.1)
]

makes_new : (p : List ℕ) (z : Objects) → MakesDirs p z (fin.insert z (marker_of p) marker)
makes_new p z = record {
  files = λ k f. text_other z (marker_of p) k marker (λ e. false≢true (sym f ∙ ap is_marker e ∙ marker_is p));
  kept = dir_more z (fin.insert z (marker_of p) marker) (λ k h. put_stands z (marker_of p) k marker h);
  path = dir_of (fin.insert z (marker_of p) marker) p (marker_of p) (begins_all (marker_of p)) (has_marker z p);
  above = λ q h. dir_of (fin.insert z (marker_of p) marker) q (marker_of p) (above_marker q p h) (has_marker z p);
  only = λ q h. only_put z p q h;
}

dir_above : (p : List ℕ) (z : Objects) → HasDir z p → (q : List ℕ) → IsIn q (keys_above p) → HasDir z q
dir_above [] z h q i = absurd (no_empty q (above_begins q [] i))
dir_above (x ∷ p) z h q i = dir_of z q (marker_of (x ∷ p)) (above_marker q (x ∷ p) i) h

makes_none : (p : List ℕ) (z : Objects) → HasDir z p → MakesDirs p z z
makes_none p z h = record { files = λ k f. refl; kept = λ q d. d; path = h; above = dir_above p z h; only = λ q d. inl d }

-- The marker that making a directory puts makes it a directory in the tree.
pub makes_dirs : (p : List ℕ) (z m : Objects) → PutsDir p z m → MakesDirs p z m
makes_dirs p z m (inl h) = subst (MakesDirs p z) (sym h.1) (makes_none p z h.0.1)
makes_dirs p z m (inr h) = subst (MakesDirs p z) (sym h.2) (makes_new p z)
