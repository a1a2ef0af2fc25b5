-- What the missing markers of a listing are, if the objects that were listed exist.
use Rattle.text_and_lists.proofs.Bools.{not_so}
use Rattle.text_and_lists.proofs.Less.{irrefl, lt, lt_not, lt_trans}
use Rattle.text_and_lists.proofs.Members.{false_true, filter_in, in_append, in_back, in_filter, in_front, in_map, map_in, none_some}
use Rattle.text_and_lists.proofs.Members.{true_or_false}
use Rattle.text_and_lists.specs.Members.{IsIn, RisesFrom, last_from}
use Rattle.text_and_lists.specs.Order.{text_cmp, text_total}
use Rattle.bucket_ops.proofs.Rising.{lower, sorted}
use Rattle.dir_markers.proofs.Above.{trimmed_marker}
use Rattle.dir_markers.specs.Markers.{keys_above, marker_of}
use Rattle.fs_tree.proofs.Above.{Cut, above_begins, above_marker, begins_above, cut, marker_ends, more_above, none_above, other_end}
use Rattle.fs_tree.proofs.Begins.{begins_all, begins_length, begins_marker, begins_trans, marker_at, marker_is}
use Rattle.fs_tree.specs.MarkerTool.{AreAll, IsMissing}
use Rattle.fs_tree.specs.Tree.{is_marker}
use Rattle.marker_tool.proofs.Listing.{IsListing, above, behind_first, last_less, rises_end, rises_from, rises_some}
use Rattle.marker_tool.proofs.MarkerLaws.{some_marker}
use Rattle.marker_tool.specs.Markers.{is_due, markers_above, missing_at, missing_from, missing_in}
use Rattle.path_keys.specs.Paths.{below}
use Rattle.s3_types.proofs.Begins.{between}
use Rattle.s3_types.specs.Names.{trimmed}
use Rattle.s3_types.specs.Pages.{begins, text_in}
use Rattle.s3_types.specs.Store.{Objects}
use Rattle.s3_types.specs.declared.object.Object.{Object}
use Rattle.s3_types.specs.declared.reply.PageEntry.{PageEntry}
use Rattle.s3_types.specs.declared.reply.PageEntry.TheVariants.{Object as Single, Prefix}
use Rattle.std.proofs.Common.{ap, arith, inl, inr, length-append, refl, subst, sym, ◌∙◌}
use Rattle.std.proofs.lemmas.Bool.{and_parts, false≢true}
use Rattle.std.proofs.lemmas.List.{map-append}
use Rattle.std.specs.List.{filter}
use Rattle.std.specs.Prelude.{Bool, List, None, Option, Some, false, length, map, not, suc, true, zero, ℕ, [], ◌&&◌, ◌++◌, ◌<◌, ◌∷◌, ◌≡◌}
use Rattle.std.specs.Prelude.{◌⊎◌}
use Rattle.store_frame.proofs.Flat.{behind, joins}
use Rattle.std.specs.FinMap as fin

-- ---- the markers above a key

-- A shorter text is another one.
apart : (t k : List ℕ) → length t < length k → t ≡ k → ⊥
apart t k h e = let l = ap length e in omega (arith, h, l)

longer : (p : List ℕ) → length p < length (marker_of p)
longer p = let l = length-append p (47 ∷ []) in omega (arith, l)

-- a key is its path or its path's marker
trimmed_is : (k : List ℕ) → (k ≡ trimmed k) ⊎ (k ≡ marker_of (trimmed k))
trimmed_is k = by (is_marker k) refl
  where
    by : (b : Bool) → is_marker k ≡ b → (k ≡ trimmed k) ⊎ (k ≡ marker_of (trimmed k))
    by false e = inl (other_end k e)
    by true e = let w = marker_ends k e in inr (w.1 ∙ ap marker_of (sym (ap trimmed w.1 ∙ trimmed_marker w.0)))

not_trimmed : (k : List ℕ) → is_marker k ≡ true → k ≡ trimmed k → ⊥
not_trimmed k m e =
    let w = marker_ends k m in
    apart (trimmed k) k (subst (λ t. length (trimmed k) < length t) (sym w.1)
    (subst (λ t. length t < length (marker_of w.0)) (sym (ap trimmed w.1 ∙ trimmed_marker w.0)) (longer w.0))) (sym e)

trimmed_begins : (k : List ℕ) → begins (trimmed k) k ≡ true
trimmed_begins k = elim (trimmed_is k) [
  | inl e ↦ ap (begins (trimmed k)) e ∙ begins_all (trimmed k)
  | inr e ↦ ap (begins (trimmed k)) e ∙ begins_marker (trimmed k)
]

-- Each is a marker with which the key begins, and not the key itself.
above_is : (t k : List ℕ) → IsIn t (markers_above k) → (is_marker t ≡ true) × (begins t k ≡ true) × (k ≡ t → ⊥)
above_is t k i =
    let w = in_map marker_of t (keys_above (trimmed k)) i in
    let b = above_begins w.0 (trimmed k) w.1 in (
      ap is_marker w.2 ∙ marker_is w.0,
      ap (λ t. begins t k) w.2 ∙ begins_trans (marker_of w.0) (trimmed k) k b (trimmed_begins k),
      λ e.
          other w.0 (e ∙ w.2) b (trimmed_is k),
    )
  where
    other : (d : List ℕ) → k ≡ marker_of d → begins (marker_of d) (trimmed k) ≡ true → (k ≡ trimmed k) ⊎ (k ≡ marker_of (trimmed k)) → ⊥
    other d e b (inl s) = not_trimmed k (ap is_marker e ∙ marker_is d) s
    other d e b (inr s) =
        let m : length (marker_of d) ≡ length (marker_of (trimmed k)) = ap length (sym e ∙ s) in
        omega (arith, begins_length (marker_of d) (trimmed k) b, m, longer (trimmed k))

-- They are all such markers.
above_has : (t k : List ℕ) → is_marker t ≡ true → begins t k ≡ true → (k ≡ t → ⊥) → IsIn t (markers_above k)
above_has t k m b n =
    let w = marker_ends t m in
    subst (λ t. IsIn t (markers_above k)) (sym w.1)
    (map_in marker_of w.0 (keys_above (trimmed k)) (begins_above w.0 (trimmed k) (by w.0 w.1 (trimmed_is k))))
  where
    by : (d : List ℕ) → t ≡ marker_of d → (k ≡ trimmed k) ⊎ (k ≡ marker_of (trimmed k)) → begins (marker_of d) (trimmed k) ≡ true
    by d e (inl s) = sym (ap (begins (marker_of d)) s) ∙ ap (λ t. begins t k) (sym e) ∙ b
    by d e (inr s) = elim (marker_at d (trimmed k) (ap (begins (marker_of d)) (sym s) ∙ ap (λ t. begins t k) (sym e) ∙ b)) [
      | inl g ↦ absurd (n (s ∙ ap marker_of (sym g) ∙ sym e))
      | inr g ↦ g
    ]

parent_above : (d p : List ℕ) → IsIn d (keys_above p) → marker_of p ≡ marker_of d → ⊥
parent_above d p i e =
    let m : length (marker_of p) ≡ length (marker_of d) = ap length e in
    omega (arith, begins_length (marker_of d) p (above_begins d p i), m, longer p)

above_rise : (n : ℕ) (p : List ℕ) → length p < n → RisesFrom [] (map marker_of (keys_above p))
above_rise zero p h = absurd (omega (arith, h))
above_rise (suc n) p h = by (cut p) (λ front g. above_rise n front g)
  where
    by : Cut p → ((front : List ℕ) → length front < n → RisesFrom [] (map marker_of (keys_above front)))
        → RisesFrom [] (map marker_of (keys_above p))
    by (inl m) ih = subst (λ ks. RisesFrom [] (map marker_of ks)) (sym (none_above p m)) tt
    by (inr c) ih =
        subst (λ ks. RisesFrom [] (map marker_of ks)) (sym (more_above p c.0 c.1 c.2 c.3))
        (subst (RisesFrom []) (sym (map-append marker_of (keys_above c.0) (c.0 ∷ [])))
        (rises_end [] (marker_of c.0) (map marker_of (keys_above c.0)) (ih c.0 (shorter c.0 c.1 c.2))
        (some_marker (marker_of c.0) (marker_is c.0))
        (λ k i. let w = in_map marker_of k (keys_above c.0) i in
        subst (λ k. lt text_cmp k (marker_of c.0) ≡ true) (sym w.2) (above (marker_of w.0) (marker_of c.0) (above_marker w.0 c.0 w.1)
        (parent_above w.0 c.0 w.1)))))
      where
        shorter : (front back : List ℕ) → p ≡ front ++ 47 ∷ back → length front < n
        shorter front back e = let l = ap length e ∙ length-append front (47 ∷ back) in omega (arith, h, l)

-- ---- the markers that an entry needs

module _ (q l k : List ℕ) (h : lt text_cmp l k ≡ true) where
  -- holds if this is a marker between two keys, and the second begins with it
  abbrev IsDue : List ℕ → Type 0
  IsDue t = (lt text_cmp l t ≡ true) × (lt text_cmp t k ≡ true) × (is_marker t ≡ true) × (begins q t ≡ true) × (begins t k ≡ true)

  due_is : (t : List ℕ) → IsIn t (filter (is_due q l) (markers_above k)) → IsDue t
  due_is t i =
      let a = in_filter (is_due q l) t (markers_above k) i in
      let c = and_parts (begins q t) (not (begins t l)) a.1 in
      let w = above_is t k a.0 in
      (by w.1 (not_so (begins t l) c.1) (true_or_false (lt text_cmp l t)), above t k w.1 w.2, w.0, c.0, w.1)
    where
      by : begins t k ≡ true → begins t l ≡ false → (lt text_cmp l t ≡ true) ⊎ (lt text_cmp l t ≡ false) → lt text_cmp l t ≡ true
      by b n (inl g) = g
      by b n (inr g) = absurd (false_true n (between t l k g (lt_not text_total l k h) b))

  due_rise : RisesFrom l (filter (is_due q l) (markers_above k))
  due_rise =
      rises_from [] l (filter (is_due q l) (markers_above k)) (rises_some (is_due q l) [] (markers_above k)
      (above_rise (suc (length (trimmed k))) (trimmed k) (omega arith)))
      (λ t i. (due_is t i).0)

  due_last : lt text_cmp (last_from l (filter (is_due q l) (markers_above k))) k ≡ true
  due_last = last_less l k (filter (is_due q l) (markers_above k)) h (λ t i. (due_is t i).1)

-- ---- the missing ones

module _ (q : List ℕ) where
  -- holds if this marker is missing after a text
  abbrev IsWanted : List ℕ → List PageEntry → List ℕ → Type 0
  IsWanted l es t = (lt text_cmp l t ≡ true) × (is_marker t ≡ true) × (begins q t ≡ true) × (IsIn t (map text_in es) → ⊥) × (e : PageEntry)
      × IsIn e es × (begins t (text_in e) ≡ true)

  later : (l : List ℕ) (e : PageEntry) (es : List PageEntry) (t : List ℕ) → lt text_cmp l (text_in e) ≡ true → IsWanted (text_in e) es t
      → IsWanted l (e ∷ es) t
  later l e es t h w = (lt_trans text_total l (text_in e) t h w.0, w.1, w.2, by, w.4, inr w.5, w.6)
    where
      by : (t ≡ text_in e) ⊎ IsIn t (map text_in es) → ⊥
      by (inl s) = false_true (irrefl text_total t) (ap (λ k. lt text_cmp k t) s ∙ w.0)
      by (inr i) = w.3 i

  missing_each : (l : List ℕ) (es : List PageEntry) → RisesFrom l (map text_in es) → (t : List ℕ) → IsIn t (missing_from q l es)
      → IsWanted l es t
  missing_each l [] h t i = absurd i
  missing_each l (Prefix p ∷ es) h t i = later l (Prefix p) es t h.0 (missing_each p es h.1 t i)
  missing_each l (Single k n ∷ es) h t i = elim (in_append t (missing_at q l (Single k n)) (missing_from q k es) i) [
    | inl i ↦ let w = due_is q l k h.0 t i in (w.0, w.2, w.3, no w.1, Single k n, inl refl, w.4)
    | inr i ↦ later l (Single k n) es t h.0 (missing_each k es h.1 t i)
  ]
    where
      no : lt text_cmp t k ≡ true → (t ≡ k) ⊎ IsIn t (map text_in es) → ⊥
      no g (inl s) = false_true (irrefl text_total k) (ap (λ t. lt text_cmp t k) (sym s) ∙ g)
      no g (inr i) = false_true (lt_not text_total t k g) (behind k t (map text_in es) h.1 i)

  missing_rise : (l : List ℕ) (es : List PageEntry) → RisesFrom l (map text_in es) → RisesFrom l (missing_from q l es)
  missing_rise l [] h = tt
  missing_rise l (Prefix p ∷ es) h = lower l p (missing_from q p es) h.0 (missing_rise p es h.1)
  missing_rise l (Single k n ∷ es) h =
      joins l (missing_at q l (Single k n)) (missing_from q k es) (due_rise q l k h.0)
      (lower (last_from l (missing_at q l (Single k n))) k (missing_from q k es) (due_last q l k h.0) (missing_rise k es h.1))

  missing_has : (z : Objects) (t : List ℕ) → is_marker t ≡ true → begins q t ≡ true → (l : List ℕ) (es : List PageEntry)
      → IsListing q l z es → begins t l ≡ false → (IsIn t (map text_in es) → ⊥)
      → (e : PageEntry) → IsIn e es → begins t (text_in e) ≡ true → IsIn t (missing_from q l es)
  missing_has z t m b l [] h n out e i g = absurd i
  missing_has z t m b l (Prefix p ∷ es) h n out e i g = let w = h.each (Prefix p) (inl refl) in absurd (let s = w.2 in cc)
  missing_has z t m b l (Single k c ∷ es) h n out e i g = by (true_or_false (begins t k)) i
      (λ f j. missing_has z t m b k es (behind_first q l z (Single k c) es h) f (λ i. out (inr i)) e j g)
    where
      due : is_due q l t ≡ true
      due = ap (λ a. a && not (begins t l)) b ∙ ap not n

      by : (begins t k ≡ true) ⊎ (begins t k ≡ false) → IsIn e (Single k c ∷ es)
          → (begins t k ≡ false → IsIn e es → IsIn t (missing_from q k es)) → IsIn t (missing_from q l (Single k c ∷ es))
      by (inl f) j old = in_front t (missing_at q l (Single k c)) (missing_from q k es)
          (filter_in (is_due q l) t (markers_above k) (above_has t k m f (λ s. out (inl (sym s)))) due)
      by (inr f) (inl s) old = absurd (false_true f (ap (λ e. begins t (text_in e)) (sym s) ∙ g))
      by (inr f) (inr j) old = in_back t (missing_at q l (Single k c)) (missing_from q k es) (old f j)

module _ (p : List ℕ) (z : Objects) (es : List PageEntry) (h : IsListing (below p []) [] z es) where
  missing_is : (t : List ℕ) → IsIn t (missing_in (below p []) es) → IsMissing p z t
  missing_is t i =
      let w = missing_each (below p []) [] es h.rises t i in
      let e = h.each w.4 w.5 in
      ((w.2, w.1), by (fin.get z t) refl w.0 w.2 w.3, (e.0, ap (begins t) (sym (ap text_in e.2)) ∙ w.6, e.1, e.4))
    where
      by : (o : Option Object) → fin.get z t ≡ o → lt text_cmp [] t ≡ true → begins (below p []) t ≡ true → (IsIn t (map text_in es) → ⊥)
          → fin.get z t ≡ None
      by None g a b n = g
      by (Some o) g a b n = absurd (n (map_in text_in (Single t (length o.bytes)) es (h.all t o g b a)))

  missing_all : (t : List ℕ) → IsMissing p z t → IsIn t (missing_in (below p []) es)
  missing_all t m =
      let j = m.2.0 in
      let i = h.all j m.2.2 m.2.3 (begins_trans (below p []) t j m.0.0 m.2.1) (first j m.2.1) in
      missing_has (below p []) z t m.0.1 m.0.0 [] es h (empty t m.0.1) stood (Single j (length m.2.2.bytes)) i m.2.1
    where
      empty : (t : List ℕ) → is_marker t ≡ true → begins t [] ≡ false
      empty [] n = absurd (false≢true n)
      empty (x ∷ t) n = refl

      first : (j : List ℕ) → begins t j ≡ true → lt text_cmp [] j ≡ true
      first [] b = absurd (false_true (empty t m.0.1) b)
      first (x ∷ j) b = refl

      stood : IsIn t (map text_in es) → ⊥
      stood i =
          let a = in_map text_in t es i in
          let e = h.each a.0 a.1 in
          none_some m.1 (ap (fin.get z) (a.2 ∙ ap text_in e.2) ∙ e.4)

  -- they are the missing markers below the path
  pub all_missing : AreAll (IsMissing p z) (missing_in (below p []) es)
  all_missing = record {
    each = missing_is;
    all = missing_all;
    rises = sorted [] (missing_in (below p []) es)
        (missing_rise (below p []) [] es h.rises);
  }
