-- The moves of a file, and of a directory with all that is below it.
use Rattle.text_and_lists.proofs.Less.{irrefl, lt_not}
use Rattle.text_and_lists.proofs.Members.{none_or_some, none_some, true_or_false}
use Rattle.text_and_lists.specs.Members.{IsIn, RisesFrom}
use Rattle.text_and_lists.specs.Order.{text_cmp, text_total}
use Rattle.bucket_ops.proofs.Below.{below_stands, stands_below}
use Rattle.bucket_ops.specs.Walking.{keys_below}
use Rattle.dir_markers.specs.Markers.{marker_of}
use Rattle.fs_rename.proofs.CopyLaws.{is_source, is_target}
use Rattle.fs_rename.proofs.NewKeys.{new_is}
use Rattle.fs_rename.proofs.Whole.{new_at_end, old_at_end, others_at_end}
use Rattle.fs_rename.specs.inner.Copies.{AreFree, IsOneOf, Move, copied_all, moves_of, moves_to, sources, targets}
use Rattle.fs_rename.specs.Keys.{new_key, new_keys, with_front}
use Rattle.fs_tree.proofs.Begins.{begins_more, one_begins}
use Rattle.fs_tree.proofs.Dropping.{marker_key, marker_not_below}
use Rattle.fs_tree.proofs.Moving.{rest_after}
use Rattle.fs_tree.specs.Changes.{marker_if, parent}
use Rattle.fs_tree.specs.Moves.{AllFit, IsDirMoved, IsFileMoved, IsFirstTooLong, IsMove, is_too_long}
use Rattle.fs_tree.specs.Tree.{HasFile, IsDirectory, NoneBelow, Stands, is_marker}
use Rattle.s3_types.specs.Answer.{without}
use Rattle.s3_types.specs.Pages.{begins}
use Rattle.s3_types.specs.Store.{Objects}
use Rattle.s3_types.specs.declared.object.Object.{Object}
use Rattle.std.proofs.Common.{Bool, Err, List, None, Ok, Result, Some, ap, arith, cond, false, inl, inr, refl, subst, sym, true, ℕ, []}
use Rattle.std.proofs.Common.{◌++◌, ◌∙◌, ◌∷◌, ◌≡◌, ◌⊎◌}
use Rattle.std.proofs.lemmas.Bool.{false≢true}
use Rattle.std.proofs.lemmas.List.{append_cancel_left}
use Rattle.std.specs.Ordering.{is_lt}
use Rattle.store_frame.proofs.Flat.{behind, listed_rises}
use Rattle.std.specs.FinMap as fin

-- ---- keys that are moved from below one text to below another

module _ (from to : List ℕ) where
  pub move_of : (ks : List (List ℕ)) (k l : List ℕ) → IsOneOf k l (moves_to from to ks) → IsIn k ks × (l ≡ new_key from to k)
  move_of [] k l h = absurd h
  move_of (x ∷ ks) k l (inl e) = (inl e.0, e.1 ∙ ap (new_key from to) (sym e.0))
  move_of (x ∷ ks) k l (inr h) = let w = move_of ks k l h in (inr w.0, w.1)

  to_move : (ks : List (List ℕ)) (k : List ℕ) → IsIn k ks → IsOneOf k (new_key from to k) (moves_to from to ks)
  to_move [] k h = absurd h
  to_move (x ∷ ks) k (inl e) = inl (e, ap (new_key from to) e)
  to_move (x ∷ ks) k (inr h) = inr (to_move ks k h)

  pub sources_to : (ks : List (List ℕ)) → sources (moves_to from to ks) ≡ ks
  sources_to [] = refl
  sources_to (k ∷ ks) = ap (λ l. k ∷ l) (sources_to ks)

  -- if all fit, these are the new keys
  found : (x : List ℕ) (ks ls : List (List ℕ)) → ((ls : List (List ℕ)) → new_keys from to ks ≡ Ok ls → (ls ≡ targets (moves_to from to ks))
      × ((k : List ℕ) → IsIn k ks → is_too_long (new_key from to k) ≡ false))
      → (b : Bool) → is_too_long (new_key from to x) ≡ b → (r : Result (List (List ℕ)) (List ℕ)) → new_keys from to ks ≡ r
      → cond b (Err x) (with_front (new_key from to x ∷ []) r) ≡ Ok ls
      → (ls ≡ targets (moves_to from to (x ∷ ks))) × ((k : List ℕ) → IsIn k (x ∷ ks) → is_too_long (new_key from to k) ≡ false)
  found x ks ls h b g r e f = grind arith

  pub all_found : (ks ls : List (List ℕ)) → new_keys from to ks ≡ Ok ls → (ls ≡ targets (moves_to from to ks))
      × ((k : List ℕ) → IsIn k ks → is_too_long (new_key from to k) ≡ false)
  all_found [] ls e = (cc, λ k i. absurd i)
  all_found (x ∷ ks) ls e = found x ks ls (λ ls g. all_found ks ls g) (is_too_long (new_key from to x)) refl (new_keys from to ks) refl e

  -- or this is the first key that does not fit
  abbrev IsFirst : List (List ℕ) → List ℕ → Type 0
  IsFirst ks k = IsIn k ks × (is_too_long (new_key from to k) ≡ true)
      × ((j : List ℕ) → IsIn j ks → is_lt (text_cmp j k) ≡ true → is_too_long (new_key from to j) ≡ false)

  long : (x : List ℕ) (ks : List (List ℕ)) (k : List ℕ) → RisesFrom x ks → ((k : List ℕ) → new_keys from to ks ≡ Err k → IsFirst ks k)
      → (b : Bool) → is_too_long (new_key from to x) ≡ b → (r : Result (List (List ℕ)) (List ℕ)) → new_keys from to ks ≡ r
      → cond b (Err x) (with_front (new_key from to x ∷ []) r) ≡ Err k → IsFirst (x ∷ ks) k
  long x ks k o ih true f r g e =
      let h : x ≡ k = cc in (
        inl (sym h),
        ap (λ v. is_too_long (new_key from to v)) (sym h) ∙ f,
        λ j i l. absurd
            (none j i (ap (λ v. is_lt (text_cmp j v)) h ∙ l)),
      )
    where
      none : (j : List ℕ) → (j ≡ x) ⊎ IsIn j ks → is_lt (text_cmp j x) ≡ true → ⊥
      none j (inl i) l = false≢true (sym (irrefl text_total x) ∙ ap (λ v. is_lt (text_cmp v x)) (sym i) ∙ l)
      none j (inr i) l = false≢true (sym (lt_not text_total x j (behind x j ks o i)) ∙ l)
  long x ks k o ih false f (Ok rs) g e = absurd (cc)
  long x ks k o ih false f (Err y) g e =
      let h : y ≡ k = cc in
      let w = ih k (g ∙ ap Err h) in
      (inr w.0, w.1, λ j i l. elim i [ inl i ↦ ap (λ v. is_too_long (new_key from to v)) i ∙ f | inr i ↦ w.2 j i l ])

  pub first_long : (x : List ℕ) (ks : List (List ℕ)) (k : List ℕ) → RisesFrom x ks → new_keys from to ks ≡ Err k → IsFirst ks k
  first_long x [] k o e = absurd (cc)
  first_long x (y ∷ ks) k o e = long y ks k o.1 (λ k g. first_long y ks k o.1 g) (is_too_long (new_key from to y)) refl
      (new_keys from to ks) refl e

-- ---- a file

-- Only the file's own key is moved.
pub only_file : (z : Objects) (x : ℕ) (p q : List ℕ) → HasFile z (x ∷ p) → (k l : List ℕ) → IsMove z (x ∷ p) q k l → (k ≡ x ∷ p) × (l ≡ q)
only_file z x p q h k l g = grind arith

module _ (z : Objects) (x : ℕ) (p : List ℕ) (y : ℕ) (q : List ℕ) where
  abbrev F : List Move
  F = moves_of false (x ∷ p) (y ∷ q) z

  pub file_free : HasFile z (x ∷ p) → fin.get z (y ∷ q) ≡ None → AreFree z F
  file_free h g = grind arith

  pub file_to : HasFile z (x ∷ p) → (k l : List ℕ) → IsMove z (x ∷ p) (y ∷ q) k l → IsOneOf k l F
  file_to h k l m = inl (only_file z x p (y ∷ q) h k l m)

  pub file_from : HasFile z (x ∷ p) → (k l : List ℕ) → IsOneOf k l F → IsMove z (x ∷ p) (y ∷ q) k l
  file_from h k l g = grind arith

  -- the marker above it is another key
  pub file_apart : is_marker (x ∷ p) ≡ false → (k : List ℕ) → marker_if (parent (x ∷ p)) ≡ Some k → IsIn k (sources F) → ⊥
  file_apart f k e (inl i) = false≢true (sym f ∙ ap is_marker (sym i) ∙ marker_key (parent (x ∷ p)) k e)
  file_apart f k e (inr i) = i

  pub file_moved : AreFree z F → IsFileMoved (x ∷ p) (y ∷ q) z (without (copied_all z F) (sources F))
  file_moved h = record {
    moved = new_at_end None z F h (x ∷ p) (y ∷ q) (inl (refl, refl));
    gone = old_at_end None z F h (x ∷ p) (y ∷ q) (inl (refl, refl));
    others = λ k a b. others_at_end None z F h k (not_one k (x ∷ p) a) (not_one k (y ∷ q) b);
  }
    where
      not_one : (k j : List ℕ) → (k ≡ j → ⊥) → IsIn k (j ∷ []) → ⊥
      not_one k j f (inl e) = f e
      not_one k j f (inr e) = e

-- ---- a directory

module _ (z : Objects) (x : ℕ) (p : List ℕ) (y : ℕ) (q : List ℕ) where
  abbrev P : List ℕ
  P = marker_of (x ∷ p)

  abbrev Q : List ℕ
  Q = marker_of (y ∷ q)

  abbrev D : List Move
  D = moves_of true (x ∷ p) (y ∷ q) z

  moved_rest : (k l : List ℕ) → IsOneOf k l D → (rest : List ℕ) × (k ≡ P ++ rest) × (l ≡ Q ++ rest)
  moved_rest k l i =
      let w = move_of P Q (keys_below P z) k l i in
      let r = rest_after P k (below_stands P z k w.0).0 in
      (r.0, r.1, w.1 ∙ ap (new_key P Q) r.1 ∙ new_is P Q r.0)

  dir_stands : (k l : List ℕ) → IsOneOf k l D → Stands z k
  dir_stands k l i = (below_stands P z k (move_of P Q (keys_below P z) k l i).0).1

  begins_rest : (a k rest : List ℕ) → k ≡ a ++ rest → begins a k ≡ true
  begins_rest a k rest e = ap (begins a) e ∙ begins_more a rest

  pub dir_free : NoneBelow z Q → AreFree z D
  dir_free n = record {
    stands = dir_stands;
    free = λ k l i. let r = moved_rest k l i in n l (begins_rest Q l r.0 r.2);
    one = λ k j l a b.
        let r = moved_rest k l a in
        let s = moved_rest j l b in
        r.1 ∙ ap (λ v. P ++ v) (append_cancel_left Q r.0 s.0 (sym r.2 ∙ s.2)) ∙ sym s.1;
    only = λ k l i a b. (move_of P Q (keys_below P z) k l a).1 ∙ sym (move_of P Q (keys_below P z) k i b).1;
    rises = subst (RisesFrom []) (sym (sources_to P Q (keys_below P z))) (listed_rises P [] z);
  }

  to_dir : (rest : List ℕ) (v : Object) → fin.get z (P ++ rest) ≡ Some v → IsOneOf (P ++ rest) (Q ++ rest) D
  to_dir rest v s =
      subst (λ l. IsOneOf (P ++ rest) l D) (new_is P Q rest)
      (to_move P Q (keys_below P z) (P ++ rest) (stands_below x (marker_of p) z (P ++ rest) v (begins_more P rest) s))

  pub dir_to : IsDirectory z (x ∷ p) → (k l : List ℕ) → IsMove z (x ∷ p) (y ∷ q) k l → IsOneOf k l D
  dir_to h k l g = grind (arith, to_dir)

  pub dir_from : IsDirectory z (x ∷ p) → (k l : List ℕ) → IsOneOf k l D → IsMove z (x ∷ p) (y ∷ q) k l
  dir_from h k l i = let r = moved_rest k l i in inr (h, dir_stands k l i, (r.0, r.1, r.2))

  -- all its keys fit
  pub dir_fit : IsDirectory z (x ∷ p) → ((k : List ℕ) → IsIn k (keys_below P z) → is_too_long (new_key P Q k) ≡ false)
      → AllFit z (x ∷ p) (y ∷ q)
  dir_fit h f k l i = let w = move_of P Q (keys_below P z) k l (dir_to h k l i) in ap is_too_long w.1 ∙ f k w.0

  -- or this is the first key that does not fit
  pub dir_long : (k : List ℕ) → IsDirectory z (x ∷ p) → new_keys P Q (keys_below P z) ≡ Err k → IsFirstTooLong z (x ∷ p) (y ∷ q) k
  dir_long k h e =
      let w = first_long P Q [] (keys_below P z) k (listed_rises P [] z) e in
      record {
        new = new_key P Q k;
        moves = dir_from h k (new_key P Q k) (to_move P Q (keys_below P z) k w.0);
        long = w.1;
        first = λ j l i less. let v = move_of P Q (keys_below P z) j l (dir_to h j l i) in ap is_too_long v.1 ∙ w.2 j v.0 less;
      }

  -- the marker above it is no key below it
  pub dir_apart : (k : List ℕ) → marker_if (parent (x ∷ p)) ≡ Some k → IsIn k (sources D) → ⊥
  dir_apart k e i = marker_not_below x p (parent (x ∷ p)) k refl e (below_stands P z k
      (subst (IsIn k) (sources_to P Q (keys_below P z)) i)).0

  module _ (h : AreFree z D) (none : NoneBelow z Q) (apart : begins P Q ≡ true → ⊥) (above : begins Q P ≡ true → ⊥) where
    abbrev N : Objects
    N = without (copied_all z D) (sources D)

    not_source : (k : List ℕ) → begins P k ≡ false → IsIn k (sources D) → ⊥
    not_source k f i = false≢true (sym f ∙ (below_stands P z k (subst (IsIn k) (sources_to P Q (keys_below P z)) i)).0)

    no_source : (k : List ℕ) → fin.get z k ≡ None → IsIn k (sources D) → ⊥
    no_source k n i = none_some n (below_stands P z k (subst (IsIn k) (sources_to P Q (keys_below P z)) i)).1.1

    not_target : (k : List ℕ) → begins Q k ≡ false → IsIn k (targets D) → ⊥
    not_target k h g = grind (arith, is_target, moved_rest, begins_rest)

    no_target : (rest : List ℕ) → fin.get z (P ++ rest) ≡ None → IsIn (Q ++ rest) (targets D) → ⊥
    no_target rest h g = grind (arith, is_target, moved_rest, append_cancel_left, dir_stands)

    moved : (rest : List ℕ) → fin.get N (Q ++ rest) ≡ fin.get z (P ++ rest)
    moved rest = elim (none_or_some (fin.get z (P ++ rest))) [
      | inl n ↦ others_at_end None z D h (Q ++ rest) (no_source (Q ++ rest) free) (no_target rest n) ∙ free ∙ sym n
      | inr s ↦ new_at_end None z D h (P ++ rest) (Q ++ rest) (to_dir rest s.0 s.1)
    ]
      where
        free : fin.get z (Q ++ rest) ≡ None
        free = none (Q ++ rest) (begins_more Q rest)

    gone : (k : List ℕ) → begins P k ≡ true → fin.get N k ≡ None
    gone k b = elim (none_or_some (fin.get z k)) [
      | inl n ↦ others_at_end None z D h k (no_source k n) (other (true_or_false (begins Q k))) ∙ n
      | inr s ↦ let w = is_source D k (subst (IsIn k) (sym (sources_to P Q (keys_below P z))) (stands_below x (marker_of p) z k s.0 b s.1))
          in old_at_end None z D h k w.0 w.1
    ]
      where
        other : (begins Q k ≡ true) ⊎ (begins Q k ≡ false) → IsIn k (targets D) → ⊥
        other (inl t) i = elim (one_begins P Q k b t) [ inl f ↦ apart f | inr f ↦ above f ]
        other (inr f) i = not_target k f i

    pub dir_moved : IsDirMoved (x ∷ p) (y ∷ q) z N
    dir_moved = grind (arith, moved, gone, others_at_end, not_source, not_target)
