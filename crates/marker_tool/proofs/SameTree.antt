-- The tree without surplus markers, or with missing ones put, is the same.
use Rattle.text_and_lists.proofs.Members.{false_true, none_some, same_or_other, text_here, text_left, text_other}
use Rattle.text_and_lists.specs.Members.{IsIn}
use Rattle.bucket_ops.proofs.Below.{gone_in, is_in, kept_out}
use Rattle.dir_markers.specs.Markers.{marker_of}
use Rattle.fs_tree.proofs.Begins.{begins_trans}
use Rattle.fs_tree.specs.MarkerTool.{AreAll, CleansMarkers, FillsMarkers, HasMore, IsCleaning, IsFilling, IsMissing, IsSurplus, SameTree}
use Rattle.fs_tree.specs.Tree.{HasDir, IsDirectory, SomeBelow, Stands, marker}
use Rattle.marker_tool.proofs.Listing.{above}
use Rattle.marker_tool.specs.Works.{with_markers}
use Rattle.s3_types.proofs.Begins.{from_prefix}
use Rattle.s3_types.specs.Answer.{without}
use Rattle.s3_types.specs.Pages.{begins}
use Rattle.s3_types.specs.Store.{Objects}
use Rattle.std.proofs.Common.{inl, inr, refl, subst, sym, ◌∙◌}
use Rattle.std.specs.Prelude.{List, None, Some, length, true, ℕ, [], ◌++◌, ◌∷◌, ◌≡◌, ◌⊎◌}
use Rattle.std.specs.FinMap as fin

-- ---- what is kept at a point

-- Only these surplus keys are gone.
pub cleaning_of : (p : List ℕ) (z m : Objects) (ks : List (List ℕ)) → IsDirectory z p → SameTree z m
    → ((k : List ℕ) → IsIn k ks → IsSurplus p z k) → ((k : List ℕ) → IsIn k ks → fin.get m k ≡ None)
    → ((k : List ℕ) → (IsIn k ks → ⊥) → fin.get m k ≡ fin.get z k) → IsCleaning p z m
cleaning_of p z m ks d t s g o = record {
  tree = t;
  kept = λ k. (elim (is_in k ks) [ inl i ↦ inr (g k i, d, s k i) | inr n ↦ inl (o k n) ]);
}

-- Only these missing markers are put.
pub filling_of : (p : List ℕ) (z m : Objects) (ks : List (List ℕ)) → IsDirectory z p → SameTree z m
    → ((k : List ℕ) → IsIn k ks → IsMissing p z k) → ((k : List ℕ) → IsIn k ks → fin.get m k ≡ Some marker)
    → ((k : List ℕ) → (IsIn k ks → ⊥) → fin.get m k ≡ fin.get z k) → IsFilling p z m
filling_of p z m ks d t s g o = record { tree = t; kept = λ k. (elim (is_in k ks) [ inl i ↦ inr (g k i, d, s k i) | inr n ↦ inl (o k n) ]) }

-- ---- removal of keys with which others begin

-- Texts that begin with each other are equal.
one_text : (a b : List ℕ) → begins a b ≡ true → begins b a ≡ true → b ≡ a
one_text a b h g = elim (same_or_other b a) [ inl e ↦ e | inr n ↦ absurd (false_true (from_prefix b a g) (above a b h n)) ]

module _ (z : Objects) (k : List ℕ) (h : HasMore z k) where
  -- after the removal of one of them, the others are still such keys
  more_without : (j : List ℕ) → HasMore z j → HasMore (fin.remove z k) j
  more_without j g = by (same_or_other g.0 k)
    where
      by : (g.0 ≡ k) ⊎ (g.0 ≡ k → ⊥) → HasMore (fin.remove z k) j
      by (inl e) =
          let b : begins j k ≡ true = subst (λ t. begins j t ≡ true) e g.1 in (
            h.0,
            begins_trans j k h.0 b h.1,
            (λ s. g.2 (e ∙ one_text j k b (subst (λ t. begins k t ≡ true) s h.1))),
            (h.3.0, text_left z k h.0 h.2 ∙ h.3.1),
          )
      by (inr n) = (g.0, g.1, g.2, (g.3.0, text_left z k g.0 n ∙ g.3.1))

  -- a path that was above one of them is above another key
  some_without : (t : List ℕ) → SomeBelow z t → SomeBelow (fin.remove z k) t
  some_without t g = elim (same_or_other g.0 k) [
    | inl e ↦ (h.0, begins_trans t k h.0 (subst (λ j. begins t j ≡ true) e g.1) h.1, h.3.0, text_left z k h.0 h.2 ∙ h.3.1)
    | inr n ↦ (g.0, g.1, g.2, text_left z k g.0 n ∙ g.3)
  ]

all_without : (ks : List (List ℕ)) (z : Objects) (t : List ℕ) → ((k : List ℕ) → IsIn k ks → HasMore z k) → SomeBelow z t
    → SomeBelow (without z ks) t
all_without [] z t h g = g
all_without (k ∷ ks) z t h g =
    all_without ks (fin.remove z k) t (λ j i. more_without z k (h k (inl refl)) j (h j (inr i))) (some_without z k (h k (inl refl)) t g)

pub without_append : (z : Objects) (ks qs : List (List ℕ)) → without z (ks ++ qs) ≡ without (without z ks) qs
without_append z [] qs = refl
without_append z (k ∷ ks) qs = without_append (fin.remove z k) ks qs

stood : (z : Objects) (ks : List (List ℕ)) (k : List ℕ) → Stands (without z ks) k → Stands z k
stood z ks k h = elim (is_in k ks) [ inl i ↦ absurd (none_some (gone_in z ks k i) h.1) | inr n ↦ (h.0, sym (kept_out z ks k n) ∙ h.1) ]

module _ (p : List ℕ) (z : Objects) (ks : List (List ℕ)) (h : (k : List ℕ) → IsIn k ks → IsSurplus p z k) where
  dirs_stay : (q : List ℕ) → HasDir z q → HasDir (without z ks) q
  dirs_stay [] g = tt
  dirs_stay (x ∷ q) g = all_without ks z (marker_of (x ∷ q)) (λ k i. (h k i).1.1) g

  dirs_stood : (q : List ℕ) → HasDir (without z ks) q → HasDir z q
  dirs_stood [] g = tt
  dirs_stood (x ∷ q) g = let s = stood z ks g.0 (g.2, g.3) in (g.0, g.1, s.0, s.1)

  -- the tree is the same without surplus markers
  pub same_without : SameTree z (without z ks)
  same_without = record {
    files = λ k f. kept_out z ks k (λ i. false_true f (h k i).0.1);
    kept = dirs_stay;
    only = dirs_stood;
  }

  pub is_cleaning : IsDirectory z p → IsCleaning p z (without z ks)
  is_cleaning d = cleaning_of p z (without z ks) ks d same_without h (gone_in z ks) (kept_out z ks)

-- Without all of them no surplus marker is left.
pub cleans : (p : List ℕ) (z : Objects) (ks : List (List ℕ)) → AreAll (IsSurplus p z) ks → CleansMarkers p z (length ks) (without z ks)
cleans p z ks a = record {
  surplus = ks;
  all = a;
  number = refl;
  gone = gone_in z ks;
  others = kept_out z ks;
  none = λ k s. by k s (is_in k ks);
  tree = same_without p z ks a.each;
}
  where
    by : (k : List ℕ) → IsSurplus p (without z ks) k → IsIn k ks ⊎ (IsIn k ks → ⊥) → ⊥
    by k s (inl i) = none_some (gone_in z ks k i) s.1.0.1
    by k s (inr n) = n (a.all k (
      s.0,
      (
        (s.1.0.0, sym (kept_out z ks k n) ∙ s.1.0.1, s.1.0.2),
        (s.1.1.0, s.1.1.1, s.1.1.2, stood z ks s.1.1.0 s.1.1.3),
      ),
    ))

-- ---- markers are put

pub with_append : (z : Objects) (ks qs : List (List ℕ)) → with_markers z (ks ++ qs) ≡ with_markers (with_markers z ks) qs
with_append z [] qs = refl
with_append z (k ∷ ks) qs = with_append (fin.insert z k marker) ks qs

put_out : (z : Objects) (ks : List (List ℕ)) (k : List ℕ) → (IsIn k ks → ⊥) → fin.get (with_markers z ks) k ≡ fin.get z k
put_out z [] k n = refl
put_out z (x ∷ ks) k n = put_out (fin.insert z x marker) ks k (λ i. n (inr i)) ∙ text_other z x k marker (λ e. n (inl e))

put_in : (z : Objects) (ks : List (List ℕ)) (k : List ℕ) → IsIn k ks → fin.get (with_markers z ks) k ≡ Some marker
put_in z [] k i = absurd i
put_in z (x ∷ ks) k i = by i (is_in k ks) (put_in (fin.insert z x marker) ks k)
  where
    by : (k ≡ x) ⊎ IsIn k ks → IsIn k ks ⊎ (IsIn k ks → ⊥) → (IsIn k ks → fin.get (with_markers (fin.insert z x marker) ks) k ≡ Some marker)
        → fin.get (with_markers (fin.insert z x marker) ks) k ≡ Some marker
    by i (inl j) old = old j
    by (inl e) (inr n) old = put_out (fin.insert z x marker) ks k n ∙ text_here z x k marker e
    by (inr j) (inr n) old = absurd (n j)

stands_with : (z : Objects) (ks : List (List ℕ)) (k : List ℕ) → Stands z k → Stands (with_markers z ks) k
stands_with z ks k h = elim (is_in k ks) [ inl i ↦ (marker, put_in z ks k i) | inr n ↦ (h.0, put_out z ks k n ∙ h.1) ]

module _ (p : List ℕ) (z : Objects) (ks : List (List ℕ)) (h : (k : List ℕ) → IsIn k ks → IsMissing p z k) where
  -- a path that is above a key now was above one before
  some_was : (t : List ℕ) → SomeBelow (with_markers z ks) t → SomeBelow z t
  some_was t g =
      elim (is_in g.0 ks) [
        | inl i ↦ let s = (h g.0 i).2 in (s.0, begins_trans t g.0 s.0 g.1 s.1, s.2, s.3)
        | inr n ↦ (g.0, g.1, g.2, sym (put_out z ks g.0 n) ∙ g.3)
      ]

  dirs_kept : (q : List ℕ) → HasDir z q → HasDir (with_markers z ks) q
  dirs_kept [] g = tt
  dirs_kept (x ∷ q) g = let s = stands_with z ks g.0 (g.2, g.3) in (g.0, g.1, s.0, s.1)

  dirs_were : (q : List ℕ) → HasDir (with_markers z ks) q → HasDir z q
  dirs_were [] g = tt
  dirs_were (x ∷ q) g = some_was (marker_of (x ∷ q)) g

  -- the tree is the same with missing markers put
  pub same_with : SameTree z (with_markers z ks)
  same_with = record {
    files = λ k f. put_out z ks k (λ i. false_true f (h k i).0.1);
    kept = dirs_kept;
    only = dirs_were;
  }

  pub is_filling : IsDirectory z p → IsFilling p z (with_markers z ks)
  is_filling d = filling_of p z (with_markers z ks) ks d same_with h (put_in z ks) (put_out z ks)

-- With all of them no marker is missing.
pub fills : (p : List ℕ) (z : Objects) (ks : List (List ℕ)) → AreAll (IsMissing p z) ks → FillsMarkers p z (length ks) (with_markers z ks)
fills p z ks a = record {
  missing = ks;
  all = a;
  number = refl;
  put = put_in z ks;
  others = put_out z ks;
  none = λ k s. (elim (is_in k ks) [
    | inl i ↦ none_some s.1 (put_in z ks k i)
    | inr n ↦ n (a.all k (s.0, sym (put_out z ks k n) ∙ s.1, some_was p z ks a.each k s.2))
  ]);
  tree = same_with p z ks a.each;
}
