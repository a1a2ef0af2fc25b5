-- What the markers of a listing are, if the objects that were listed exist.
use Rattle.text_and_lists.proofs.Less.{irrefl, lt, lt_not}
use Rattle.text_and_lists.proofs.Members.{false_true, filter_in, in_back, in_filter, in_front, in_map, map_in, some_is}
use Rattle.text_and_lists.proofs.Naturals.{positive}
use Rattle.text_and_lists.specs.Members.{IsIn, RisesFrom}
use Rattle.text_and_lists.specs.Order.{text_cmp, text_total}
use Rattle.bucket_ops.proofs.Rising.{lower, sorted}
use Rattle.fs_tree.proofs.Begins.{begins_trans}
use Rattle.fs_tree.specs.MarkerTool.{AreAll, HasBytes, HasMarkers, HasMore, IsBare, IsKind, IsSurplus}
use Rattle.fs_tree.specs.Tree.{Stands, is_marker}
use Rattle.fs_tree.specs.declared.markers.MarkerEntry.{MarkerEntry}
use Rattle.fs_tree.specs.declared.markers.MarkerKind.{MarkerKind}
use Rattle.fs_tree.specs.declared.markers.MarkerKind.TheVariants.{Leaf, Odd, Surplus}
use Rattle.marker_tool.proofs.Listing.{IsListing, above, behind_first, rises_filter}
use Rattle.marker_tool.specs.Markers.{goes_on, is_surplus, kind_of, marker_at, markers_in, surplus_in}
use Rattle.path_keys.specs.Paths.{below}
use Rattle.s3_types.proofs.Begins.{between}
use Rattle.s3_types.specs.Pages.{begins, text_in}
use Rattle.s3_types.specs.Store.{Objects}
use Rattle.s3_types.specs.declared.object.Object.{Object}
use Rattle.s3_types.specs.declared.reply.PageEntry.{PageEntry}
use Rattle.s3_types.specs.declared.reply.PageEntry.TheVariants.{Object as Single, Prefix}
use Rattle.std.proofs.Common.{ap, arith, inl, inr, refl, subst, sym, ◌∙◌}
use Rattle.std.proofs.lemmas.Bool.{eqb-true, false≢true}
use Rattle.std.specs.List.{filter}
use Rattle.std.specs.Prelude.{Bool, List, Some, cond, false, if◌then◌else◌, length, map, true, ℕ, [], ◌++◌, ◌<◌, ◌==◌, ◌∷◌, ◌≡◌}
use Rattle.store_frame.proofs.Flat.{behind}
use Rattle.std.specs.FinMap as fin

-- ---- what a marker is

bare_bytes : (z : Objects) (k : List ℕ) → IsBare z k → HasBytes z k → ⊥
bare_bytes z k h g =
    let n : length g.0.bytes ≡ 0 = ap (λ (o : Object). length o.bytes) (some_is (sym g.1 ∙ h.1)) ∙ h.2 in
    let l : 0 < length g.0.bytes = g.2 in
    omega (arith, n, l)

-- A key has at most one kind.
pub one_kind : (z : Objects) (k : List ℕ) (a b : MarkerKind) → IsKind z k a → IsKind z k b → a ≡ b
one_kind z k Surplus Leaf h g = absurd (g.1 h.1)
one_kind z k Leaf Surplus h g = absurd (h.1 g.1)
one_kind z k Odd Odd h g = refl
one_kind z k Odd _ h g = absurd (bare_bytes z k g.0 h)
one_kind z k _ Odd h g = absurd (bare_bytes z k h.0 g)
one_kind z k _ _ h g = refl

-- A marker and its kind.
abbrev entry : List ℕ → MarkerKind → MarkerEntry
entry k kind = record { key = k; kind = kind }

-- The length of an entry.
abbrev bytes_in : PageEntry → ℕ
bytes_in (Single k n) = n
bytes_in (Prefix t) = 0

module _ (q : List ℕ) (z : Objects) where
  -- a key that begins with the marker comes after it, so the next key begins with it too
  next_up : (k j : List ℕ) (n : ℕ) (es : List PageEntry) → IsListing q k z es → begins k j ≡ true → IsIn (Single j n) es
      → goes_on k es ≡ true
  next_up k j n [] h b i = absurd i
  next_up k j n (f ∷ fs) h b (inl i) = ap (λ e. begins k (text_in e)) (sym i) ∙ b
  next_up k j n (f ∷ fs) h b (inr i) =
      between k (text_in f) j (lt_not text_total k (text_in f) h.rises.0)
      (lt_not text_total (text_in f) j (behind (text_in f) j (map text_in fs) h.rises.1 (map_in text_in (Single j n) fs i))) b

  more_next : (l k : List ℕ) (n : ℕ) (es : List PageEntry) → IsListing q l z (Single k n ∷ es) → begins q k ≡ true → HasMore z k
      → goes_on k es ≡ true
  more_next l k n es h b more =
      let rest = behind_first q l z (Single k n) es h in
      next_up k more.0 (length more.3.0.bytes) es rest more.1 (rest.all more.0 more.3.0 more.3.1 (begins_trans q k more.0 b more.1)
      (above k more.0 more.1 more.2))

  next_more : (l k : List ℕ) (n : ℕ) (es : List PageEntry) → IsListing q l z (Single k n ∷ es) → goes_on k es ≡ true → HasMore z k
  next_more l k n [] h t = absurd (false≢true t)
  next_more l k n (f ∷ fs) h t =
      let w = h.each f (inr (inl refl)) in (
        text_in f,
        t,
        (λ e. false_true (irrefl text_total k) (ap (lt text_cmp k) (sym e) ∙ h.rises.1.0)),
        (w.1, ap (fin.get z) (ap text_in w.2) ∙ w.4),
      )

  kind_by : (k : List ℕ) (o : Object) (n : ℕ) (b c : Bool) → fin.get z k ≡ Some o → n ≡ length o.bytes → (n == 0) ≡ b
      → (c ≡ true → HasMore z k) → (HasMore z k → c ≡ true)
      → IsKind z k (if b then (if c then Surplus else Leaf) else Odd)
  kind_by k o n false c g e t f h = (o, g, subst (λ n. 0 < n) e (positive n t))
  kind_by k o n true true g e t f h = ((o, g, sym e ∙ eqb-true n 0 t), f refl)
  kind_by k o n true false g e t f h = ((o, g, sym e ∙ eqb-true n 0 t), λ more. false≢true (h more))

  -- the kind of an entry is right
  kind_here : (l k : List ℕ) (n : ℕ) (es : List PageEntry) → IsListing q l z (Single k n ∷ es) → IsKind z k (kind_of n (goes_on k es))
  kind_here l k n es h =
      let w = h.each (Single k n) (inl refl) in
      let key : k ≡ w.0 = ap text_in w.2 in
      kind_by k w.1 n (n == 0) (goes_on k es) (ap (fin.get z) key ∙ w.4) (ap bytes_in w.2) refl (next_more l k n es h)
      (more_next l k n es h (ap (begins q) key ∙ w.3))

  -- holds if this is a marker below the prefix, with its kind
  abbrev IsFound : MarkerEntry → Type 0
  IsFound x = (begins q x.key ≡ true) × (is_marker x.key ≡ true) × IsKind z x.key x.kind

  each_marker : (l : List ℕ) (es : List PageEntry) → IsListing q l z es → (x : MarkerEntry) → IsIn x (markers_in es) → IsFound x
  each_marker l [] h x i = absurd i
  each_marker l (Prefix t ∷ es) h x i = each_marker t es (behind_first q l z (Prefix t) es h) x i
  each_marker l (Single k n ∷ es) h x i = by (is_marker k) refl i (each_marker k es (behind_first q l z (Single k n) es h) x)
    where
      here : begins q k ≡ true
      here = let w = h.each (Single k n) (inl refl) in ap (begins q) (ap text_in w.2) ∙ w.3

      by : (b : Bool) → is_marker k ≡ b → IsIn x (cond b (entry k (kind_of n (goes_on k es)) ∷ []) [] ++ markers_in es)
          → (IsIn x (markers_in es) → IsFound x) → IsFound x
      by true e (inl s) old = subst IsFound (sym s) (here, e, kind_here l k n es h)
      by true e (inr i) old = old i
      by false e i old = old i

  find_marker : (k : List ℕ) (kind : MarkerKind) → is_marker k ≡ true → IsKind z k kind → (l : List ℕ) (es : List PageEntry)
      → IsListing q l z es → (n : ℕ) → IsIn (Single k n) es
      → IsIn (entry k kind) (markers_in es)
  find_marker k kind m g l [] h n i = absurd i
  find_marker k kind m g l (Prefix t ∷ es) h n (inl e) = absurd (cc)
  find_marker k kind m g l (Prefix t ∷ es) h n (inr i) = find_marker k kind m g t es (behind_first q l z (Prefix t) es h) n i
  find_marker k kind m g l (Single j c ∷ es) h n (inr i) =
      in_back (entry k kind) (marker_at (Single j c) es) (markers_in es) (find_marker k kind m g j es (behind_first q l z (Single j c) es h)
      n i)
  find_marker k kind m g l (Single j c ∷ es) h n (inl e) =
      in_front (entry k kind) (marker_at (Single j c) es) (markers_in es)
      (subst (λ b. IsIn (entry k kind) (cond b (entry j (kind_of c (goes_on j es)) ∷ []) [])) (sym (ap is_marker (sym same) ∙ m))
      (inl (λ i. entry (same i) (alike i))))
    where
      same : k ≡ j
      same = ap text_in e

      alike : kind ≡ kind_of c (goes_on j es)
      alike = one_kind z j kind (kind_of c (goes_on j es)) (subst (λ k. IsKind z k kind) same g) (kind_here l j c es h)

pub markers_rise : (l : List ℕ) (es : List PageEntry) → RisesFrom l (map text_in es) → RisesFrom l (map (λ x. x.key) (markers_in es))
markers_rise l [] h = tt
markers_rise l (Prefix t ∷ es) h = lower l t (map (λ x. x.key) (markers_in es)) h.0 (markers_rise t es h.1)
markers_rise l (Single k n ∷ es) h = elim (is_marker k) as (λ b. RisesFrom l
    (map (λ x. x.key) (cond b (entry k (kind_of n (goes_on k es)) ∷ []) [] ++ markers_in es))) [
      | true ↦ (h.0, markers_rise k es h.1)
      | false ↦ lower l k (map (λ x. x.key) (markers_in es)) h.0 (markers_rise k es h.1)
    ]

pub some_marker : (k : List ℕ) → is_marker k ≡ true → lt text_cmp [] k ≡ true
some_marker [] m = absurd (false≢true m)
some_marker (x ∷ k) m = refl

module _ (p : List ℕ) (z : Objects) (es : List PageEntry) (h : IsListing (below p []) [] z es) where
  -- they are the markers below the path
  pub has_markers : HasMarkers p z (markers_in es)
  has_markers = record {
    each = λ x i. let w = each_marker (below p []) z [] es h x i in ((w.0, w.1), w.2);
    all = λ k kind b g.
        let s = ((elim kind as (λ a. IsKind z k a → Stands z k) [ Odd ↦ λ h. (h.0, h.1) | _ ↦ λ h. (h.0.0, h.0.1) ]) g) in
        find_marker (below p []) z k kind b.1 g [] es h (length s.0.bytes) (h.all k s.0 s.1 b.0 (some_marker k b.1));
    rises = sorted [] (map (λ x. x.key) (markers_in es)) (markers_rise [] es h.rises);
  }

  surplus_is : (a : MarkerKind) → is_surplus a ≡ true → a ≡ Surplus
  surplus_is Surplus t = refl
  surplus_is _ t = absurd (false≢true t)

  surplus_each : (k : List ℕ) → IsIn k (surplus_in es) → IsSurplus p z k
  surplus_each k i =
      let a = in_map (λ x. x.key) k (filter (λ x. is_surplus x.kind) (markers_in es)) i in
      let c = in_filter (λ x. is_surplus x.kind) a.0 (markers_in es) a.1 in
      let w = each_marker (below p []) z [] es h a.0 c.0 in
      subst (IsSurplus p z) (sym a.2) ((w.0, w.1), subst (IsKind z a.0.key) (surplus_is a.0.kind c.1) w.2)

  surplus_has : (k : List ℕ) → IsSurplus p z k → IsIn k (surplus_in es)
  surplus_has k s =
      let x : MarkerEntry = entry k Surplus in
      map_in (λ x. x.key) x (filter (λ x. is_surplus x.kind) (markers_in es))
      (filter_in (λ x. is_surplus x.kind) x (markers_in es) (has_markers.all k Surplus s.0 s.1) refl)

  -- these are the surplus ones
  pub all_surplus : AreAll (IsSurplus p z) (surplus_in es)
  all_surplus = record {
    each = surplus_each;
    all = surplus_has;
    rises = sorted [] (surplus_in es) (rises_filter (λ x. x.key) (λ x. is_surplus x.kind) [] (markers_in es) (markers_rise [] es h.rises));
  }
