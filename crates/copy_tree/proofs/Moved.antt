-- The moves of a directory to a place, if neither path is the other or below it.
use Rattle.text_and_lists.proofs.Members.{in_append, none_or_some, none_some, true_or_false}
use Rattle.text_and_lists.specs.Members.{IsIn}
use Rattle.dir_markers.specs.Markers.{keys_above, marker_of}
use Rattle.fs_tree.proofs.Above.{above_begins}
use Rattle.fs_tree.proofs.Begins.{begins_length, begins_marker, begins_more, begins_trans, one_begins}
use Rattle.fs_tree.proofs.Moving.{rest_after}
use Rattle.fs_tree.specs.Copies.{IsOverlap, to_target}
use Rattle.fs_tree.specs.Moves.{IsMove}
use Rattle.fs_tree.specs.Tree.{IsDirectory, Stands}
use Rattle.s3_types.specs.Pages.{begins}
use Rattle.s3_types.specs.Store.{Objects}
use Rattle.s3_types.specs.declared.object.Object.{Object}
use Rattle.std.proofs.Common.{ap, arith, inl, inr, length-append, refl, sym, ◌∙◌}
use Rattle.std.proofs.lemmas.Bool.{false≢true}
use Rattle.std.proofs.lemmas.List.{append_cancel_left}
use Rattle.std.specs.Prelude.{List, None, Some, length, true, ℕ, [], ◌++◌, ◌+◌, ◌∷◌, ◌≡◌, ◌≤◌, ◌⊎◌}
use Rattle.std.specs.FinMap as fin

-- Holds if a key and its new key have the same rest after the markers of their directories.
abbrev pub SameRest : List ℕ → List ℕ → List ℕ → List ℕ → Type 0
SameRest p t k l = (rest : List ℕ) × (k ≡ marker_of p ++ rest) × (l ≡ marker_of t ++ rest)

pub begins_rest : (a k rest : List ℕ) → k ≡ a ++ rest → begins a k ≡ true
begins_rest a k rest e = ap (begins a) e ∙ begins_more a rest

module _ (x : ℕ) (p : List ℕ) (y : ℕ) (t : List ℕ) where
  abbrev pub P : List ℕ
  P = marker_of (x ∷ p)

  abbrev pub Q : List ℕ
  Q = marker_of (y ∷ t)

  -- a move of a directory is of an existing key below it
  pub moved_rest : (z : Objects) (k l : List ℕ) → IsDirectory z (x ∷ p) → IsMove z (x ∷ p) (y ∷ t) k l → Stands z k
      × SameRest (x ∷ p) (y ∷ t) k l
  moved_rest z k l h g = grind arith

  pub is_move : (z : Objects) (k l : List ℕ) → IsDirectory z (x ∷ p) → Stands z k → SameRest (x ∷ p) (y ∷ t) k l
      → IsMove z (x ∷ p) (y ∷ t) k l
  is_move z k l h s r = inr (h, s, r)

  pub move_below : (z : Objects) (k l : List ℕ) → IsDirectory z (x ∷ p) → IsMove z (x ∷ p) (y ∷ t) k l → begins Q l ≡ true
  move_below z k l h m = let r = (moved_rest z k l h m).1 in begins_rest Q l r.0 r.2

  -- a new key is that of exactly one key
  pub one_source : (z : Objects) (k j l : List ℕ) → IsDirectory z (x ∷ p) → IsMove z (x ∷ p) (y ∷ t) k l → IsMove z (x ∷ p) (y ∷ t) j l
      → k ≡ j
  one_source z k j l h g e = grind (arith, moved_rest, append_cancel_left)

  -- a key is a new key or not
  pub is_new : (z : Objects) (q : List ℕ) → IsDirectory z (x ∷ p) → ((k : List ℕ) × IsMove z (x ∷ p) (y ∷ t) k q)
      ⊎ ((k : List ℕ) → IsMove z (x ∷ p) (y ∷ t) k q → ⊥)
  is_new z q h = elim (true_or_false (begins Q q)) [
    | inl b ↦ let r = rest_after Q q b in at r.0 r.1 (none_or_some (fin.get z (P ++ r.0)))
    | inr f ↦ inr (λ k m. false≢true (sym f ∙ move_below z k q h m))
  ]
    where
      at : (rest : List ℕ) → q ≡ Q ++ rest → (fin.get z (P ++ rest) ≡ None) ⊎ ((v : Object) × (fin.get z (P ++ rest) ≡ Some v))
          → ((k : List ℕ) × IsMove z (x ∷ p) (y ∷ t) k q) ⊎ ((k : List ℕ) → IsMove z (x ∷ p) (y ∷ t) k q → ⊥)
      at rest e (inr s) = inl (P ++ rest, is_move z (P ++ rest) q h s (rest, refl, e))
      at rest e (inl n) = inr (λ k m.
          let w = moved_rest z k q h m in
          let same : w.1.0 ≡ rest = append_cancel_left Q w.1.0 rest (sym w.1.2 ∙ e) in
          none_some n (ap (fin.get z) (ap (λ v. P ++ v) (sym same) ∙ sym w.1.1) ∙ w.0.1))

  -- a path above the target, or the target itself, is no new key
  pub not_above : (a : List ℕ) → IsIn a (to_target (y ∷ t)) → begins Q a ≡ true → ⊥
  not_above a i b = elim (in_append a (keys_above (y ∷ t)) ((y ∷ t) ∷ []) i) [
    | inl g ↦ omega (arith, begins_length (marker_of a) (y ∷ t) (above_begins a (y ∷ t) g), length-append a (47 ∷ []), long, more)
    | inr (inl e) ↦ let l = long in let m = more in let s : length a ≡ length (y ∷ t) = ap length e in omega (arith, l, m, s)
    | inr (inr e) ↦ e
  ]
    where
      long : length Q ≤ length a
      long = begins_length Q a b

      more : length Q ≡ length (y ∷ t) + 1
      more = length-append (y ∷ t) (47 ∷ [])

  module _ (apart : IsOverlap (x ∷ p) (y ∷ t) → ⊥) where
    -- no key is below both
    pub not_both : (k : List ℕ) → begins P k ≡ true → begins Q k ≡ true → ⊥
    not_both k a b = apart (one_begins P Q k a b)

    pub source_not_new : (z : Objects) (k j : List ℕ) → IsDirectory z (x ∷ p) → begins P k ≡ true → IsMove z (x ∷ p) (y ∷ t) j k → ⊥
    source_not_new z k j h b m = not_both k b (move_below z j k h m)

    -- nor is the source
    pub path_not_new : (z : Objects) (j : List ℕ) → IsDirectory z (x ∷ p) → IsMove z (x ∷ p) (y ∷ t) j (x ∷ p) → ⊥
    path_not_new z j h m = apart (inr (begins_trans Q (x ∷ p) P (move_below z j (x ∷ p) h m) (begins_marker (x ∷ p))))
