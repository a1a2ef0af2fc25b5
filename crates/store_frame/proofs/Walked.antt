-- The walk after a text begins at the first key from `start` on.
use Rattle.text_and_lists.proofs.Bools.{contrary}
use Rattle.text_and_lists.proofs.Less.{irrefl, le_lt, le_not, lt_le, lt_trans}
use Rattle.text_and_lists.proofs.Members.{false_true, none_or_some, none_some, some_is}
use Rattle.text_and_lists.specs.Order.{text_cmp, text_total}
use Rattle.s3_types.proofs.Begins.{between, from_prefix}
use Rattle.s3_types.specs.Pages.{begins, stem_if}
use Rattle.s3_types.specs.declared.object.Object.{Object}
use Rattle.std.proofs.Common.{Bool, List, None, Option, Some, ap, cond, false, inl, inr, not, refl, subst, sym, true, ℕ, [], ◌&&◌, ◌++◌}
use Rattle.std.proofs.Common.{◌∙◌, ◌∷◌, ◌≡◌}
use Rattle.std.proofs.lemmas.Bool.{and_from, and_left, and_parts, and_right, cases_Bool, eq-eqb, not-true, true_from_ne_false}
use Rattle.std.proofs.lemmas.Map.Keys.{sorted_head, sorted_tail}
use Rattle.std.specs.BTreeMap.Range.{entries_between, is_from_start}
use Rattle.std.specs.List.{AllByRecursion, filter, slice_get}
use Rattle.std.specs.List.Sorted.{IsStrictlySortedBy}
use Rattle.std.specs.Map.{keys_of}
use Rattle.std.specs.Ordering.{is_lt}
use Rattle.std.specs.declared.cmp.Ordering.TheVariants.{Less}
use Rattle.std.specs.declared.ops.Bound.TheVariants.{Unbounded}
use Rattle.store_frame.proofs.Prefix.{before_next, le_le, lt, lt_not, up_to_next}
use Rattle.store_frame.proofs.Stem.{stem_below, stem_prefix, stem_same}
use Rattle.store_frame.specs.inner.Walk.{ComesNext, start, start_by, text_by, text_of, walked}

-- ---- how a key's text compares

-- The function `st` returns stems.
pub record Stems (p : List ℕ) (st : List ℕ → Option (List ℕ)) : Type 0 where
  pub below : (q s : List ℕ) → st q ≡ Some s → begins (s ++ 47 ∷ []) q ≡ true
  pub prefix : (q s : List ℕ) → st q ≡ Some s → begins p (s ++ 47 ∷ []) ≡ true
  pub same : (q s w : List ℕ) → st q ≡ Some s → begins (s ++ 47 ∷ []) w ≡ true → st w ≡ Some s

pub stems : (p : List ℕ) (d : Bool) → Stems p (stem_if d p)
stems p true = record { below = stem_below p; prefix = stem_prefix p; same = stem_same p }
stems p false = record {
  below = λ q s e. absurd (none_some refl e);
  prefix = λ q s e. absurd (none_some refl e);
  same = λ q s w e h. absurd
      (none_some refl e);
}

module _ (p : List ℕ) (st : List ℕ → Option (List ℕ)) (k : Stems p st) where
  -- A text is not greater than its key.
  pub text_le : (q : List ℕ) (o : Option (List ℕ)) → st q ≡ o → lt q (text_by o q) ≡ false
  text_le q None e = irrefl text_total q
  text_le q (Some s) e = from_prefix (s ++ 47 ∷ []) q (k.below q s e)

  -- A text is not less than the prefix, if its key begins with it.
  text_ge : (q : List ℕ) (o : Option (List ℕ)) → st q ≡ o → begins p q ≡ true → lt (text_by o q) p ≡ false
  text_ge q None e h = from_prefix p q h
  text_ge q (Some s) e h = from_prefix p (s ++ 47 ∷ []) (k.prefix q s e)

  -- If a has a common prefix, keys after that have greater texts.
  module _ (a q s : List ℕ) (e : st a ≡ Some s) where
    inside : lt q (s ++ 48 ∷ []) ≡ true → lt a (text_by (st q) q) ≡ false
    inside h = (elim (lt q (s ++ 47 ∷ [])) as (λ b. lt q (s ++ 47 ∷ []) ≡ b → lt a (text_by (st q) q) ≡ false) [
      | true ↦ λ l. le_le (text_by (st q) q) q a (text_le q (st q) refl) (lt_not q a
          (lt_le text_total q (s ++ 47 ∷ []) a l (from_prefix (s ++ 47 ∷ []) a (k.below a s e))))
      | false ↦ λ l. ap (λ o. lt a (text_by o q)) (k.same a s q e (before_next s q l h)) ∙ from_prefix (s ++ 47 ∷ []) a (k.below a s e)
    ]) refl

    outside : lt q (s ++ 48 ∷ []) ≡ false → lt a (text_by (st q) q) ≡ true
    outside h = true_from_ne_false _ (λ f. elim (none_or_some (st q)) [
      | inl n ↦ false_true (rw n at f) aq
      | inr r ↦
          let b : begins (r.0 ++ 47 ∷ []) a ≡ true = between (r.0 ++ 47 ∷ []) a q (rw r.1 at f) (lt_not a q aq) (k.below q r.0 r.1) in
          let x : r.0 ≡ s = some_is (sym (k.same q r.0 a r.1 b) ∙ e) in
          false_true h (up_to_next s q (subst (λ s. begins (s ++ 47 ∷ []) q ≡ true) x (k.below q r.0 r.1)))
    ])
      where
        aq : lt a q ≡ true
        aq = lt_le text_total a (s ++ 48 ∷ []) q (up_to_next s a (k.below a s e)) h

  -- If a has none, keys after a have greater texts.
  after : (a q : List ℕ) → st a ≡ None → lt a (text_by (st q) q) ≡ lt a q
  after a q e = elim (none_or_some (st q)) [
    | inl n ↦ rw n refl
    | inr r ↦ rw r.1 (elim (cases_Bool (lt a q)) [
      | inl t ↦ rw t (true_from_ne_false _ (λ f. none_some e (k.same q r.0 a r.1
          (between (r.0 ++ 47 ∷ []) a q f (lt_not a q t) (k.below q r.0 r.1)))))
      | inr f ↦ rw f (le_le (r.0 ++ 47 ∷ []) q a (from_prefix (r.0 ++ 47 ∷ []) q (k.below q r.0 r.1)) f)
    ])
  ]

  -- A key below p has a text greater than a exactly if it is at the start or after it.
  pub from_start : (a q : List ℕ) → begins p q ≡ true → lt a (text_by (st q) q) ≡ is_from_start text_cmp (start_by (st a) p a) q
  from_start a q h = elim (none_or_some (st a)) [
    | inl e ↦ rw e (elim (cases_Bool (lt a p)) [
      | inl l ↦ rw l (lt_le text_total a p (text_by (st q) q) l (text_ge q (st q) refl h) ∙ sym
          (le_not text_total p q ∙ ap not (from_prefix p q h)))
      | inr l ↦ rw l (after a q e)
    ])
    | inr s ↦ rw s.1 (elim (lt q (s.0 ++ 48 ∷ [])) as (λ b. lt q (s.0 ++ 48 ∷ []) ≡ b → lt a (text_by (st q) q) ≡ not b) [
      | true ↦ inside a q s.0 s.1
      | false ↦ outside a q s.0 s.1
    ] refl ∙ sym (le_not text_total (s.0 ++ 48 ∷ []) q))
  ]

-- ---- lists

-- True if the key is walked next after a.
abbrev counts : List ℕ → Bool → List ℕ → List ℕ → Bool
counts p d a q = begins p q && lt a (text_of p d q)

counts_from : (p : List ℕ) (d : Bool) (a q : List ℕ) → is_from_start text_cmp (start p d a) q ≡ false → counts p d a q ≡ false
counts_from p d a q h =
    (elim (begins p q) as (λ b. begins p q ≡ b → counts p d a q ≡ false) [
      | false ↦ λ e. and_left _ _ e
      | true ↦ λ e. and_right _ _
          (from_start p (stem_if d p) (stems p d) a q e ∙ h)
    ]) refl

later : (p : List ℕ) (d : Bool) (a b q : List ℕ) → lt a b ≡ true → counts p d a q ≡ false → counts p d b q ≡ false
later p d a b q l h = contrary _ (λ t. let u = and_parts (begins p q) (lt b (text_of p d q)) t in sym h ∙ and_from _ _ u.0
    (lt_trans text_total a b (text_of p d q) l u.1))

module _ (p : List ℕ) (d : Bool) where
  -- Entries that do not count may be left out.
  skip : (f : List ℕ × Object → Bool) (es : List (List ℕ × Object)) (a : List ℕ)
      → ((e : List ℕ × Object) → f e ≡ false → counts p d a e.0 ≡ false) → walked p d a (filter f es) ≡ walked p d a es
  skip f [] a h = refl
  skip f (e ∷ es) a h = elim (cases_Bool (f e)) [
    | inr t ↦ rw (t, h e t) (skip f es a h)
    | inl t ↦ rw t (elim (cases_Bool (counts p d a e.0)) [
      | inl c ↦ rw (c, skip f es (text_of p d e.0) (λ x z. later p d a (text_of p d e.0) x.0 (and_parts (begins p e.0) _ c).1 (h x z))) refl
      | inr c ↦ rw c (skip f es a h)
    ])
  ]

  -- ---- the first entry from the start on

  below_itself : (t : List ℕ) → begins t t ≡ true
  below_itself [] = refl
  below_itself (x ∷ t) = and_from _ _ (eq-eqb x x refl) (below_itself t)

  pub start_ge : (a q : List ℕ) → is_from_start text_cmp (start p d a) q ≡ true → lt q p ≡ false
  start_ge a q h = elim (none_or_some (stem_if d p a)) [
    | inl e ↦ elim (cases_Bool (lt a p)) [
      | inl l ↦ not-true _ (sym (le_not text_total p q) ∙ (rw (e, l) at h))
      | inr l ↦ le_le p a q l (lt_not a q (rw (e, l) at h))
    ]
    | inr s ↦
        let x : lt (s.0 ++ 47 ∷ []) p ≡ false = from_prefix p (s.0 ++ 47 ∷ []) ((stems p d).prefix a s.0 s.1) in
        let y : lt (s.0 ++ 47 ∷ []) (s.0 ++ 48 ∷ []) ≡ true = up_to_next s.0 (s.0 ++ 47 ∷ []) (below_itself (s.0 ++ 47 ∷ [])) in
        le_le p (s.0 ++ 48 ∷ []) q (lt_not p (s.0 ++ 48 ∷ []) (le_lt text_total p (s.0 ++ 47 ∷ []) (s.0 ++ 48 ∷ []) x y))
        (not-true _ (sym (le_not text_total (s.0 ++ 48 ∷ []) q) ∙ (rw s.1 at h)))
  ]

  none_below : (e : List ℕ × Object) (es : List (List ℕ × Object)) (a : List ℕ) → AllByRecursion (λ x. text_cmp e.0 x.0 ≡ Less) es
      → begins p e.0 ≡ false → lt e.0 p ≡ false → walked p d a es ≡ []
  none_below e [] a all n g = refl
  none_below e (x ∷ es) a all n g = rw (contrary (begins p x.0) (λ t. sym n ∙ between p e.0 x.0 g (lt_not e.0 x.0 (ap is_lt all.0)) t))
      (none_below e es a all.1 n g)

  all_kept : (f : List ℕ × Object → Bool) (e : List ℕ × Object) (es : List (List ℕ × Object))
      → AllByRecursion (λ y. text_cmp e.0 y ≡ Less) (keys_of es) → AllByRecursion (λ x. text_cmp e.0 x.0 ≡ Less) (filter f es)
  all_kept f e [] all = tt
  all_kept f e (x ∷ es) all = elim (f x) as (λ b. AllByRecursion (λ x. text_cmp e.0 x.0 ≡ Less) (cond b (x ∷ filter f es) (filter f es))) [
    | true ↦ (all.0, all_kept f e es all.1)
    | false ↦ all_kept f e es all.1
  ]

  first : (f : List ℕ × Object → Bool) (es : List (List ℕ × Object)) → IsStrictlySortedBy text_cmp (keys_of es)
      → (e : List ℕ × Object) (fs : List (List ℕ × Object)) → filter f es ≡ e ∷ fs → (f e ≡ true)
      × AllByRecursion (λ x. text_cmp e.0 x.0 ≡ Less) fs
  first f [] s e fs h = absurd (cc)
  first f (x ∷ es) s e fs h = elim (cases_Bool (f x)) [
    | inr t ↦ first f es (sorted_tail text_cmp x.0 (keys_of es) s) e fs (rw t at h)
    | inl t ↦
        let g : x ∷ filter f es ≡ e ∷ fs = rw t at h in
        let ex : x ≡ e = cc in
        let er : filter f es ≡ fs = cc in
        (rw ex at t, rw (← ex, ← er) (all_kept f x es (sorted_head text_cmp x.0 (keys_of es) s)))
  ]

  -- The entry, if its key begins with p.
  abbrev pub pick : Option (List ℕ × Object) → Option (List ℕ × Object)
  pick None = None
  pick (Some e) = cond (begins p e.0) (Some e) None

  module _ (es : List (List ℕ × Object)) (s : IsStrictlySortedBy text_cmp (keys_of es)) (a : List ℕ) where
    in_range : List ℕ × Object → Bool
    in_range e = is_from_start text_cmp (start p d a) e.0 && true

    not_in : (e : List ℕ × Object) → in_range e ≡ false → is_from_start text_cmp (start p d a) e.0 ≡ false
    unfolding in_range
    not_in e h = contrary _ (λ t. sym h ∙ and_from _ _ t refl)

    kept : walked p d a (filter in_range es) ≡ walked p d a es
    kept = skip in_range es a (λ e h. counts_from p d a e.0 (not_in e h))

    -- Entries before the start are not walked.
    pub kept_between : walked p d a (entries_between text_cmp (start p d a) Unbounded es) ≡ walked p d a es
    unfolding in_range
    kept_between = kept

    with_first : (e : List ℕ × Object) (fs : List (List ℕ × Object)) → filter in_range es ≡ e ∷ fs → ComesNext p d a es (pick (Some e))
    unfolding in_range
    with_first e fs h = elim (cases_Bool (begins p e.0)) [
      | inr n ↦ rw (n, ← kept, h, n) (none_below e fs a w.1 n (start_ge a e.0 from))
      | inl t ↦
          let l : lt a (text_of p d e.0) ≡ true = from_start p (stem_if d p) (stems p d) a e.0 t ∙ from in
          rw (
            t,
            ← kept,
            h,
            t,
            l,
            ← skip in_range es (text_of p d e.0) (λ x z. later p d a (text_of p d e.0) x.0 l (counts_from p d a x.0 (not_in x z))),
            h,
            t,
            irrefl text_total (text_of p d e.0),
          ) refl
    ]
      where
        w : (in_range e ≡ true) × AllByRecursion (λ x. text_cmp e.0 x.0 ≡ Less) fs
        w = first in_range es s e fs h

        from : is_from_start text_cmp (start p d a) e.0 ≡ true
        from = (and_parts _ _ w.0).0

    pub found_next : (r : Option (List ℕ × Object)) → r ≡ slice_get (entries_between text_cmp (start p d a) Unbounded es) 0
        → ComesNext p d a es (pick r)
    unfolding in_range
    found_next r h = rw h (elim (filter in_range es) as (λ fs. filter in_range es ≡ fs → ComesNext p d a es (pick (slice_get fs 0))) [
      | [] ↦ λ e. rw (← kept, e) refl
      | x ∷ fs ↦ λ e. with_first x fs e
    ] refl)
