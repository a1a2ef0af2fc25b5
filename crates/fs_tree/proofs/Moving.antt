-- Moving a file or a directory, seen in the tree.
use Rattle.text_and_lists.proofs.Members.{eq_nat, none_some, same_or_other, true_or_false}
use Rattle.text_and_lists.proofs.Pieces.{one_part}
use Rattle.text_and_lists.specs.Parts.{parts_of}
use Rattle.dir_markers.specs.Markers.{marker_of}
use Rattle.fs_tree.proofs.Above.{NoSlash, above_parent, cut}
use Rattle.fs_tree.proofs.Begins.{begins_marker, begins_more, begins_trans, marker_at}
use Rattle.fs_tree.proofs.Dropping.{above_kept, marked_files, marked_other, marked_stands, marked_was, marker_not_below, not_above_root}
use Rattle.fs_tree.proofs.Dropping.{stands_above, through}
use Rattle.fs_tree.proofs.Making.{dir_by, dir_each, dir_of}
use Rattle.fs_tree.specs.Changes.{IsMarkedAbove, last_of, marker_if, own_name, parent}
use Rattle.fs_tree.specs.Moves.{IsAtOrBelow, IsDirMoved, IsFileMoved, IsPlace, MayMove, MovesDir, MovesFile, inside}
use Rattle.fs_tree.specs.Tree.{HasDir, HasFile, IsAbsent, IsDirectory, NoneBelow, SomeBelow, Stands, is_marker}
use Rattle.path_keys.proofs.Last.{before_none, before_slash, parts_round}
use Rattle.s3_types.specs.Pages.{begins}
use Rattle.s3_types.specs.Store.{Objects}
use Rattle.std.proofs.Common.{List, None, Some, ap, append-nil, append_assoc, false, inl, inr, nat_eq, refl, subst, sym, true, ℕ, [], ◌++◌}
use Rattle.std.proofs.Common.{◌∙◌, ◌∷◌, ◌≡◌, ◌⊎◌}
use Rattle.std.proofs.lemmas.Bool.{and_parts, false≢true}
use Rattle.std.specs.FinMap as fin

-- ---- texts

-- A text that begins with another is that text and some rest.
pub rest_after : (p k : List ℕ) → begins p k ≡ true → (rest : List ℕ) × (k ≡ p ++ rest)
rest_after [] k h = (k, refl)
rest_after (x ∷ p) [] h = absurd (false≢true h)
rest_after (x ∷ p) (y ∷ k) h =
    let w = and_parts (nat_eq x y) (begins p k) h in
    let r = rest_after p k w.1 in
    (r.0, same x y p k r.0 w.0 r.1)
  where
    same : (x y : ℕ) (p k r : List ℕ) → nat_eq x y ≡ true → k ≡ p ++ r → y ∷ k ≡ x ∷ p ++ r
    same x y p k r e f i = sym (eq_nat x y e) i ∷ f i

-- The last of a list with p at its end is p.
last_end : (ps : List (List ℕ)) (p : List ℕ) → last_of (ps ++ p ∷ []) ≡ p
last_end (q ∷ r ∷ ps) p = last_end (r ∷ ps) p
last_end _ p = refl

own_no_slash : (p : List ℕ) → NoSlash (own_name p)
own_no_slash p =
    elim (cut p) [
      | inl n ↦ subst NoSlash (sym (ap last_of (one_part 47 p n))) n
      | inr c ↦ subst NoSlash (sym (ap last_of (parts_round p c.0 c.1 c.2 c.3) ∙ last_end (parts_of 47 c.0) c.1)) c.3
    ]

-- The path inside a directory has that directory above it.
pub inside_above : (p t : List ℕ) → parent (inside p t) ≡ t
inside_above p [] = sym (before_none (own_name p) (own_no_slash p))
inside_above p (y ∷ t) = sym (before_slash (inside p (y ∷ t)) (y ∷ t) (own_name p) refl (own_no_slash p))

-- ---- the directory above the new place

-- It exists.
pub place_above : (z : Objects) (p t q : List ℕ) → IsPlace z p t q → HasDir z (parent q)
place_above z p t q (inl h) = subst (HasDir z) (sym (ap parent h.1 ∙ inside_above p t)) h.0.1
place_above z p t q (inr h) = subst (λ q. HasDir z (parent q)) (sym h.2) h.1.1

dirs_above : (z : Objects) (q u : List ℕ) → parent q ≡ u → HasDir z u → (d : List ℕ) → begins (marker_of d) q ≡ true → HasDir z d
dirs_above z q u e h [] b = tt
dirs_above z q [] e h (y ∷ d) b = absurd (not_above_root y d (rw e at (above_parent (y ∷ d) q b)))
dirs_above z q (x ∷ u) e h (y ∷ d) b = dir_of z (y ∷ d) (marker_of (x ∷ u)) (rw e at (above_parent (y ∷ d) q b)) h

-- The new place is neither the source nor below it.
pub place_apart : (z : Objects) (x : ℕ) (p t q : List ℕ) → MayMove z (x ∷ p) t → IsPlace z (x ∷ p) t q → IsAbsent z q
    → begins (marker_of (x ∷ p)) (marker_of q) ≡ true → ⊥
place_apart z x p t q m i n b = elim (marker_at (x ∷ p) q b) [ inl e ↦ stands m.stands (subst (IsAbsent z) (sym e) n) | inr b ↦ below b i ]
  where
    stands : HasFile z (x ∷ p) ⊎ IsDirectory z (x ∷ p) → IsAbsent z (x ∷ p) → ⊥
    stands (inl f) a = none_some a.0 f.1
    stands (inr d) a = none_some (a.1 d.1.0 d.1.1) d.1.3

    below : begins (marker_of (x ∷ p)) q ≡ true → IsPlace z (x ∷ p) t q → ⊥
    below b (inr h) = m.apart (inr (ap (begins (marker_of (x ∷ p))) (sym h.2) ∙ b))
    below b (inl h) = elim (marker_at (x ∷ p) t (ap (λ v. begins (marker_of (x ∷ p)) (marker_of v))
        (sym (ap parent h.1 ∙ inside_above (x ∷ p) t)) ∙ above_parent (x ∷ p) q b)) [
          | inl e ↦ m.apart (inl (sym e))
          | inr b ↦ m.apart (inr b)
        ]

-- ---- a file

module _ (p q : List ℕ) (z n m : Objects) (w : IsFileMoved p q z n) (g : IsMarkedAbove p n m) (free : fin.get z q ≡ None)
    (above : HasDir z (parent q)) where
  -- After a move of a file, the file has moved in the tree, and nothing else has changed.
  pub moves_file : is_marker p ≡ false → is_marker q ≡ false → Stands z p → MovesFile p q z m
  moves_file f i s = record {
    moved = marked_files (parent p) n m g q i ∙ w.moved;
    gone = marked_files (parent p) n m g p f ∙ w.gone;
    files = λ k j a b. marked_files (parent p) n m g k j ∙ w.others k a b;
    kept = λ d. dir_each z m d (λ k b s. elim (same_or_other k p) [
      | inl e ↦ above_kept p (parent p) refl n m g d (ap (begins (marker_of d)) (sym e) ∙ b)
      | inr f ↦ elim (same_or_other k q) [
        | inl e ↦ absurd (none_some free (ap (fin.get z) (sym e) ∙ s.1))
        | inr e ↦ dir_by m d k b (marked_stands (marker_if (parent p)) n m g k (s.0, w.others k f e ∙ s.1))
      ]
    ]);
    only = λ d. dir_each m z d (λ k b v. elim (marked_was (marker_if (parent p)) n m g k v) [
      | inr e ↦ dir_by z d p (through p (parent p) refl k d e b) s
      | inl v ↦ elim (same_or_other k p) [
        | inl e ↦ absurd (none_some (ap (fin.get n) e ∙ w.gone) v.1)
        | inr f ↦ elim (same_or_other k q) [
          | inl e ↦ dirs_above z q (parent q) refl above d (ap (begins (marker_of d)) (sym e) ∙ b)
          | inr e ↦ dir_by z d k b (v.0, sym (w.others k f e) ∙ v.1)
        ]
      ]
    ]);
  }

-- ---- a directory

-- If v has below b what u has below a, then something below a in u is also below b in v.
moved_below : (a b : List ℕ) (u v : Objects) → ((rest : List ℕ) → fin.get v (b ++ rest) ≡ fin.get u (a ++ rest))
    → (rest : List ℕ) → SomeBelow u (a ++ rest) → SomeBelow v (b ++ rest)
moved_below a b u v moved rest h =
    let r = rest_after (a ++ rest) h.0 h.1 in
    let is = ap (fin.get v) (append_assoc b rest r.0) ∙ moved (rest ++ r.0) ∙ ap (fin.get u) (sym (append_assoc a rest r.0) ∙ sym r.1) ∙ h.3
    in
    ((b ++ rest) ++ r.0, begins_more (b ++ rest) r.0, h.2, is)

module _ (x : ℕ) (p : List ℕ) (y : ℕ) (q : List ℕ) (z n m : Objects) (w : IsDirMoved (x ∷ p) (y ∷ q) z n) (g : IsMarkedAbove (x ∷ p) n m)
    (free : NoneBelow z (marker_of (y ∷ q))) (above : HasDir z (parent (y ∷ q))) (there : SomeBelow z (marker_of (x ∷ p))) where
  abbrev P : List ℕ
  P = marker_of (x ∷ p)

  abbrev Q : List ℕ
  Q = marker_of (y ∷ q)

  -- The marker above the source is not below the new place.
  not_above : begins Q P ≡ true → ⊥
  not_above b = none_some (free there.0 (begins_trans Q P there.0 b there.1)) there.3

  not_new : (k : List ℕ) → marker_if (parent (x ∷ p)) ≡ Some k → begins Q k ≡ true → ⊥
  not_new k e b = not_above (begins_trans Q (x ∷ p) P (through (x ∷ p) (parent (x ∷ p)) refl k (y ∷ q) e b) (begins_marker (x ∷ p)))

  moved_all : (rest : List ℕ) → fin.get m (Q ++ rest) ≡ fin.get z (P ++ rest)
  moved_all rest = marked_other (marker_if (parent (x ∷ p))) n m g (Q ++ rest) (λ e. not_new (Q ++ rest) e (begins_more Q rest)) ∙ w.moved
      rest

  gone_all : (k : List ℕ) → begins P k ≡ true → fin.get m k ≡ None
  gone_all k b = marked_other (marker_if (parent (x ∷ p))) n m g k (λ e. marker_not_below x p (parent (x ∷ p)) k refl e b) ∙ w.gone k b

  no_dir : (d : List ℕ) → IsAtOrBelow (x ∷ p) d → HasDir m d → ⊥
  no_dir [] (inl e) h = absurd (cc)
  no_dir [] (inr b) h = absurd (false≢true b)
  no_dir (v ∷ d) (inl e) h = none_some (gone_all h.0 (ap (λ u. begins (marker_of u) h.0) (sym e) ∙ h.1)) h.3
  no_dir (v ∷ d) (inr b) h = none_some (gone_all h.0 (begins_trans P (marker_of (v ∷ d)) h.0
      (begins_trans P (v ∷ d) (marker_of (v ∷ d)) b (begins_marker (v ∷ d))) h.1)) h.3

  below_new : (rest : List ℕ) → SomeBelow z (P ++ rest) → SomeBelow m (Q ++ rest)
  below_new = moved_below P Q z m moved_all

  marker_end : (a rest : List ℕ) → a ++ marker_of rest ≡ marker_of (a ++ rest)
  marker_end a rest = sym (append_assoc a rest (47 ∷ []))

  -- After a move of a directory with everything below it, it has moved in the tree, and nothing else has changed.
  pub moves_dir : MovesDir (x ∷ p) (y ∷ q) z m
  moves_dir = record {
    moved = moved_all;
    directory = subst (SomeBelow m) (append-nil Q) (below_new [] (subst (SomeBelow z) (sym (append-nil P)) there));
    moved_dirs = λ rest h. subst (SomeBelow m) (marker_end Q rest) (below_new (marker_of rest)
        (subst (SomeBelow z) (sym (marker_end P rest)) h));
    only_moved = λ rest h. subst (SomeBelow z) (marker_end P rest)
        (moved_below Q P m z (λ rest. sym (moved_all rest)) (marker_of rest) (subst (SomeBelow m) (sym (marker_end Q rest)) h));
    gone = gone_all;
    gone_dirs = λ d i h. no_dir d i h;
    files = λ k i a b. marked_files (parent (x ∷ p)) n m g k i ∙ w.others k a b;
    kept = λ d f. dir_each z m d (λ k i s. elim (true_or_false (begins P k)) [
      | inl a ↦ above_kept (x ∷ p) (parent (x ∷ p)) refl n m g d (stands_above x p d k f i a)
      | inr a ↦ elim (true_or_false (begins Q k)) [
        | inl b ↦ absurd (none_some (free k b) s.1)
        | inr b ↦ dir_by m d k i (marked_stands (marker_if (parent (x ∷ p))) n m g k (s.0, w.others k a b ∙ s.1))
      ]
    ]);
    only = λ d f. dir_each m z d (λ k i v. elim (marked_was (marker_if (parent (x ∷ p))) n m g k v) [
      | inr e ↦ dir_of z d P (begins_trans (marker_of d) (x ∷ p) P (through (x ∷ p) (parent (x ∷ p)) refl k d e i) (begins_marker (x ∷ p)))
          there
      | inl s ↦ elim (true_or_false (begins P k)) [
        | inl a ↦ absurd (none_some (w.gone k a) s.1)
        | inr a ↦ elim (true_or_false (begins Q k)) [
          | inl b ↦ dirs_above z (y ∷ q) (parent (y ∷ q)) refl above d (stands_above y q d k f i b)
          | inr b ↦ dir_by z d k i (s.0, sym (w.others k a b) ∙ s.1)
        ]
      ]
    ]);
  }
