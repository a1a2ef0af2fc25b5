-- Ranges of sends, seen as the map of their fates.
use Rattle.text_and_lists.proofs.Naturals.{above_so, at_most_is, at_most_not, at_most_so, below_is, below_not, greater_is, less_is}
use Rattle.s3_types.specs.Fates.{FateMap, IsFirstFrom, IsFirstNamed, is_answer, with_fates}
use Rattle.s3_types.specs.Spans.{named}
use Rattle.s3_types.specs.inner.Spans.{AreApart, first_in, from_on}
use Rattle.s3_types.specs.declared.fates.Fate.{Fate}
use Rattle.s3_types.specs.declared.fates.Span.{Span}
use Rattle.std.proofs.Common.{Bool, List, None, Option, Some, ap, arith, cond, false, max, nat_le, nat_lt, refl, subst, suc, sym, true}
use Rattle.std.proofs.Common.{zero, ℕ, [], ◌&&◌, ◌+◌, ◌-◌, ◌<◌, ◌↔◌, ◌∙◌, ◌∷◌, ◌≡◌, ◌≤◌}
use Rattle.std.proofs.lemmas.Bool.{false≢true, true≢false}
use Rattle.std.proofs.lemmas.Bool.Decides.{nat_tests}
use Rattle.std.proofs.lemmas.Map.Lookups.{exact_unsigned}
use Rattle.std.proofs.lemmas.Option.{same_Some}
use Rattle.std.specs.BTreeMap.{insert_entry}
use Rattle.std.specs.BTreeMap.Range.{entries_between}
use Rattle.std.specs.Cmp.{nat_cmp_total}
use Rattle.std.specs.FinMap.{get, get-empty, get-insert, same_map}
use Rattle.std.specs.List.{slice_get}
use Rattle.std.specs.Ordering.{eq_by_cmp, is_le, match_ordering, nat_cmp}
use Rattle.std.specs.Prelude.{IsSome}
use Rattle.std.specs.declared.cmp.Ordering.{Ordering}
use Rattle.std.specs.declared.cmp.Ordering.TheVariants.{Equal, Greater, Less}
use Rattle.std.specs.declared.ops.Bound.TheVariants.{Included, Unbounded}

-- ---- the map

outside : (a n : ℕ) (x y : Option Fate) → y ≡ cond (nat_le a n && nat_lt n (a + 0)) x y
outside a n x y = grind (arith, nat_tests)

wider : (a c n : ℕ) (x y : Option Fate) → cond (eq_by_cmp nat_cmp n (a + c)) x (cond (nat_le a n && nat_lt n (a + c)) x y) ≡ cond
    (nat_le a n && nat_lt n (a + suc c)) x y
wider a c n x y = grind (arith, nat_tests)

pub get_with_fates : (m : FateMap) (first : ℕ) (f : Fate) (count n : ℕ)
    → get (with_fates m first f count) n ≡ cond (nat_le first n && nat_lt n (first + count)) (Some f) (get m n)
unfolding with_fates
get_with_fates m first f zero n = outside first n (Some f) (get m n)
get_with_fates m first f (suc c) n =
    get-insert nat_cmp_total (with_fates m first f c) (first + c) f n
    ∙ ap (cond (eq_by_cmp nat_cmp n (first + c)) (Some f)) (get_with_fates m first f c n)
    ∙ wider first c n (Some f) (get m n)

-- True if the send n is in the range.
abbrev pub covers : ℕ → ℕ × Span → Bool
covers n e = nat_le e.1.first n && nat_le n e.0

-- The fate that the ranges give the send n.
abbrev pub span_at : List (ℕ × Span) → ℕ → Option Fate
span_at [] n = None
span_at (e ∷ es) n = cond (covers n e) (Some e.1.fate) (span_at es n)

up_to : (a l n : ℕ) → a ≤ l → (nat_le a n && nat_lt n (a + (l + 1 - a))) ≡ (nat_le a n && nat_le n l)
up_to a l n h = let e : a + (l + 1 - a) ≡ l + 1 = omega arith in ap (λ k. nat_le a n && nat_lt n k) e ∙ grind (arith, nat_tests)

pub get_named : (low : ℕ) (es : List (ℕ × Span)) → AreApart low es → (n : ℕ) → get (named es) n ≡ span_at es n
get_named low [] h n = get-empty nat_cmp n
get_named low (e ∷ es) h n =
    get_with_fates (named es) e.1.first e.1.fate (e.0 + 1 - e.1.first) n
    ∙ ap (λ b. cond b (Some e.1.fate) (get (named es) n)) (up_to e.1.first e.0 n h.1)
    ∙ ap (cond (covers n e) (Some e.1.fate)) (get_named (e.0 + 1) es h.3 n)

-- ---- the first range from a send on

is_from : (n k : ℕ) → (is_le (nat_cmp n k) && true) ≡ cond (nat_lt k n) false true
is_from n k = grind (arith, nat_tests)

pub first_from : (n : ℕ) (es : List (ℕ × Span)) → slice_get (entries_between nat_cmp (Included n) Unbounded es) 0 ≡ from_on n es
first_from n [] = refl
first_from n (e ∷ es) =
    ap (λ b. slice_get (cond b (e ∷ entries_between nat_cmp (Included n) Unbounded es) (entries_between nat_cmp (Included n) Unbounded es))
    0) (is_from n e.0)
    ∙ by (nat_lt e.0 n) (first_from n es)
  where
    by : (b : Bool) → slice_get (entries_between nat_cmp (Included n) Unbounded es) 0 ≡ from_on n es
        → slice_get (cond (cond b false true) (e ∷ entries_between nat_cmp (Included n) Unbounded es)
        (entries_between nat_cmp (Included n) Unbounded es)) 0 ≡ cond b (from_on n es) (Some e)
    by true ih = ih
    by false ih = refl

ended : (a l n k : ℕ) → nat_lt l n ≡ true → n ≤ k → (nat_le a k && nat_le k l) ≡ false
ended a l n k t h = grind (arith, nat_tests)

begun_later : (a l k : ℕ) → k < a → (nat_le a k && nat_le k l) ≡ false
begun_later a l k h = grind (arith, nat_tests)

within : (a l k : ℕ) → k ≤ l → (nat_le a k && nat_le k l) ≡ nat_le a k
within a l k h = grind (arith, nat_tests)

-- If there is no range from f on, no send from f on has a fate.
pub none_on : (f : ℕ) (es : List (ℕ × Span)) → from_on f es ≡ None → (k : ℕ) → f ≤ k → span_at es k ≡ None
none_on f [] h k l = refl
none_on f (e ∷ es) h k l = by (nat_lt e.0 f) refl (none_on f es)
  where
    by : (b : Bool) → nat_lt e.0 f ≡ b → (from_on f es ≡ None → (k : ℕ) → f ≤ k → span_at es k ≡ None) → span_at (e ∷ es) k ≡ None
    by true t ih = ap (λ b. cond b (Some e.1.fate) (span_at es k)) (ended e.1.first e.0 f k t l) ∙ ih
        (ap (λ b. cond b (from_on f es) (Some e)) (sym t) ∙ h) k l
    by false t ih = let n : Some e ≡ None = ap (λ b. cond b (from_on f es) (Some e)) (sym t) ∙ h in absurd (cc)

-- No send before the ranges has a fate.
pub none_before : (low : ℕ) (es : List (ℕ × Span)) → AreApart low es → (k : ℕ) → k < low → span_at es k ≡ None
none_before low [] h k l = refl
none_before low (e ∷ es) h k l =
    let a : k < e.1.first = omega (arith, h.0) in
    let b : k < e.0 + 1 = omega (arith, h.0, h.1) in
    ap (λ b. cond b (Some e.1.fate) (span_at es k)) (begun_later e.1.first e.0 k a) ∙ none_before (e.0 + 1) es h.3 k b

-- From f up to the end of the first range from f on, only the sends in that range have a fate.
pub at_on : (low f : ℕ) (es : List (ℕ × Span)) (e : ℕ × Span) → AreApart low es → from_on f es ≡ Some e → (k : ℕ) → f ≤ k → k ≤ e.0
    → span_at es k ≡ cond (nat_le e.1.first k) (Some e.1.fate) None
at_on low f [] e a h k l g = absurd (cc)
at_on low f (x ∷ es) e a h k l g = by (nat_lt x.0 f) refl (at_on (x.0 + 1) f es e a.3)
  where
    by : (b : Bool) → nat_lt x.0 f ≡ b → (from_on f es ≡ Some e → (k : ℕ) → f ≤ k → k ≤ e.0
        → span_at es k ≡ cond (nat_le e.1.first k) (Some e.1.fate) None)
        → span_at (x ∷ es) k ≡ cond (nat_le e.1.first k) (Some e.1.fate) None
    by true t ih = ap (λ b. cond b (Some x.1.fate) (span_at es k)) (ended x.1.first x.0 f k t l) ∙ ih
        (ap (λ b. cond b (from_on f es) (Some x)) (sym t) ∙ h) k l g
    by false t ih =
        let i : x ≡ e = same_Some x e (ap (λ b. cond b (from_on f es) (Some x)) (sym t) ∙ h) in
        let g' : k ≤ x.0 = subst (λ (y : ℕ × Span). k ≤ y.0) (sym i) g in
        let b : k < x.0 + 1 = omega (arith, g') in
        ap (λ b. cond b (Some x.1.fate) (span_at es k)) (within x.1.first x.0 k g')
        ∙ ap (cond (nat_le x.1.first k) (Some x.1.fate)) (none_before (x.0 + 1) es a.3 k b)
        ∙ ap (λ (y : ℕ × Span). cond (nat_le y.1.first k) (Some y.1.fate) None) i

-- The range is not empty, begins at `low` or later, and ends at f or later.
pub record IsRow (low f : ℕ) (e : ℕ × Span) : Type 0 where
  pub begins : low ≤ e.1.first
  pub some : e.1.first ≤ e.0
  pub lost : is_answer e.1.fate ≡ false
  pub ends : f ≤ e.0

pub is_row : (low f : ℕ) (es : List (ℕ × Span)) (e : ℕ × Span) → AreApart low es → from_on f es ≡ Some e → IsRow low f e
is_row low f [] e a h = absurd (cc)
is_row low f (x ∷ es) e a h = by (nat_lt x.0 f) refl (is_row (x.0 + 1) f es e a.3)
  where
    by : (b : Bool) → nat_lt x.0 f ≡ b → (from_on f es ≡ Some e → IsRow (x.0 + 1) f e) → IsRow low f e
    by true t ih =
        let r = ih (ap (λ b. cond b (from_on f es) (Some x)) (sym t) ∙ h) in
        record { begins = omega (arith, r.begins, a.0, a.1); some = r.some; lost = r.lost; ends = r.ends }
    by false t ih =
        subst (IsRow low f) (same_Some x e (ap (λ b. cond b (from_on f es) (Some x)) (sym t) ∙ h))
        (record { begins = a.0; some = a.1; lost = a.2; ends = below_not x.0 f t })

-- ---- a new range

equal_is : (a b : ℕ) → nat_cmp a b ≡ Equal → a ≡ b
equal_is a b h = exact_unsigned a b h

-- No send from f to l has a fate.
abbrev pub IsFree : ℕ → ℕ → List (ℕ × Span) → Type 0
IsFree f l es = first_in f l (from_on f es) ≡ None

-- The first range ends before f, or begins after l.
free_head : (low f l : ℕ) (e : ℕ × Span) (es : List (ℕ × Span)) → AreApart low (e ∷ es) → IsFree f l (e ∷ es) → (b : Bool)
    → nat_lt e.0 f ≡ b → cond b (IsFree f l es) (l < e.1.first)
free_head low f l e es a h true t = ap (λ b. first_in f l (cond b (from_on f es) (Some e))) (sym t) ∙ h
free_head low f l e es a h false t = by (nat_le e.1.first l) refl (ap (λ b. first_in f l (cond b (from_on f es) (Some e))) (sym t) ∙ h)
  where
    by : (b : Bool) → nat_le e.1.first l ≡ b → cond (nat_le e.1.first l) (Some (max e.1.first f)) None ≡ None → l < e.1.first
    by true u g = let n : Some (max e.1.first f) ≡ None = ap (λ b. cond b (Some (max e.1.first f)) None) (sym u) ∙ g in absurd (cc)
    by false u g = at_most_not e.1.first l u

module _ (f l : ℕ) (fate : Fate) (le : f ≤ l) where
  -- The new range.
  abbrev pub row : ℕ × Span
  row = (l, record { first = f; fate = fate })

  -- A range that ends before f and the new range have no send in common, so either may be looked at first.
  swapped : (e : ℕ × Span) (k : ℕ) (x y z : Option Fate) → e.0 < f
      → cond (covers k e) x (cond (covers k row) y z) ≡ cond (covers k row) y (cond (covers k e) x z)
  swapped e k x y z h = grind (arith, nat_tests)

  pub at_insert : (low : ℕ) (es : List (ℕ × Span)) → AreApart low es → IsFree f l es → (k : ℕ)
      → span_at (insert_entry nat_cmp es l (record { first = f; fate = fate })) k ≡ cond (covers k row) (Some fate) (span_at es k)
  at_insert low [] a h k = refl
  at_insert low (e ∷ es) a h k = by (nat_lt e.0 f) refl (nat_cmp l e.0) refl (at_insert (e.0 + 1) es a.3)
    where
      by : (b : Bool) → nat_lt e.0 f ≡ b → (o : Ordering) → nat_cmp l e.0 ≡ o
          → (IsFree f l es → (k : ℕ) → span_at (insert_entry nat_cmp es l (record { first = f; fate = fate })) k ≡ cond (covers k row)
          (Some fate) (span_at es k))
          → span_at (match_ordering o (row ∷ e ∷ es) ((e.0, record { first = f; fate = fate }) ∷ es)
          (e ∷ insert_entry nat_cmp es l (record { first = f; fate = fate }))) k ≡ cond (covers k row) (Some fate) (span_at (e ∷ es) k)
      by true t Less o ih = absurd (omega (arith, below_is e.0 f t, less_is l e.0 o, le))
      by true t Equal o ih = absurd (omega (arith, below_is e.0 f t, equal_is l e.0 o, le))
      by true t Greater o ih =
          ap (cond (covers k e) (Some e.1.fate)) (ih (free_head low f l e es a h true t) k)
          ∙ swapped e k (Some e.1.fate) (Some fate) (span_at es k) (below_is e.0 f t)
      by false t Less o ih = refl
      by false t Equal o ih = absurd (omega (arith, free_head low f l e es a h false t, equal_is l e.0 o, a.1))
      by false t Greater o ih = absurd (omega (arith, free_head low f l e es a h false t, greater_is l e.0 o, a.1))

  pub apart_insert : (low : ℕ) (es : List (ℕ × Span)) → low ≤ f → is_answer fate ≡ false → AreApart low es → IsFree f l es
      → AreApart low (insert_entry nat_cmp es l (record { first = f; fate = fate }))
  apart_insert low [] g n a h = (g, le, n, tt)
  apart_insert low (e ∷ es) g n a h = by (nat_lt e.0 f) refl (nat_cmp l e.0) refl (λ g. apart_insert (e.0 + 1) es g n a.3)
    where
      by : (b : Bool) → nat_lt e.0 f ≡ b → (o : Ordering) → nat_cmp l e.0 ≡ o
          → (e.0 + 1 ≤ f → IsFree f l es → AreApart (e.0 + 1) (insert_entry nat_cmp es l (record { first = f; fate = fate })))
          → AreApart low (match_ordering o (row ∷ e ∷ es) ((e.0, record { first = f; fate = fate }) ∷ es)
          (e ∷ insert_entry nat_cmp es l (record { first = f; fate = fate })))
      by true t Less o ih = absurd (omega (arith, below_is e.0 f t, less_is l e.0 o, le))
      by true t Equal o ih = absurd (omega (arith, below_is e.0 f t, equal_is l e.0 o, le))
      by true t Greater o ih = let s : e.0 + 1 ≤ f = omega (arith, below_is e.0 f t) in
          (a.0, a.1, a.2, ih s (free_head low f l e es a h true t))
      by false t Less o ih = let s : l + 1 ≤ e.1.first = omega (arith, free_head low f l e es a h false t) in (g, le, n, (s, a.1, a.2, a.3))
      by false t Equal o ih = absurd (omega (arith, free_head low f l e es a h false t, equal_is l e.0 o, a.1))
      by false t Greater o ih = absurd (omega (arith, free_head low f l e es a h false t, greater_is l e.0 o, a.1))

up_to_count : (f count l k : ℕ) → l + 1 ≡ f + count → (nat_le f k && nat_le k l) ≡ (nat_le f k && nat_lt k (f + count))
up_to_count f count l k e = grind (arith, nat_tests, e)

-- With the new range, the map is the old one with these fates put in.
pub named_insert : (low f l count : ℕ) (fate : Fate) (es : List (ℕ × Span)) → f ≤ l → low ≤ f → l + 1 ≡ f + count → is_answer fate ≡ false
    → AreApart low es → IsFree f l es
    → named (insert_entry nat_cmp es l (record { first = f; fate = fate })) ≡ with_fates (named es) f fate count
named_insert low f l count fate es le g e n a h = same_map nat_cmp_total exact_unsigned _ _ (λ k.
    get_named low _ (apart_insert f l fate le low es g n a h) k
    ∙ at_insert f l fate le low es a h k
    ∙ ap (λ b. cond b (Some fate) (span_at es k)) (up_to_count f count l k e)
    ∙ sym (get_with_fates (named es) f fate count k ∙ ap (cond (nat_le f k && nat_lt k (f + count)) (Some fate)) (get_named low es a k)))

-- ---- the named sends between two sends

none_said : (f l : ℕ) (o : Option (ℕ × Span)) (e : ℕ × Span) → o ≡ Some e → first_in f l o ≡ None → l < e.1.first
none_said f l o e is h = by (nat_le e.1.first l) refl (ap (first_in f l) (sym is) ∙ h)
  where
    by : (b : Bool) → nat_le e.1.first l ≡ b → cond (nat_le e.1.first l) (Some (max e.1.first f)) None ≡ None → l < e.1.first
    by true u g = let n : Some (max e.1.first f) ≡ None = ap (λ b. cond b (Some (max e.1.first f)) None) (sym u) ∙ g in absurd (cc)
    by false u g = at_most_not e.1.first l u

-- If `first_in` finds nothing, no send from f to l has a fate.
pub none_named : (low f l : ℕ) (es : List (ℕ × Span)) → AreApart low es → IsFree f l es → (k : ℕ) → f ≤ k → k ≤ l → get (named es) k ≡ None
none_named low f l es a h k g le = get_named low es a k ∙ by (from_on f es) refl
  where
    by : (o : Option (ℕ × Span)) → from_on f es ≡ o → span_at es k ≡ None
    by None is = none_on f es is k g
    by (Some e) is =
        let b : l < e.1.first = none_said f l (from_on f es) e is h in
        let r = is_row low f es e a is in
        let c : k ≤ e.0 = omega (arith, b, r.some, le) in
        let d : k < e.1.first = omega (arith, b, le) in
        at_on low f es e a is k g c ∙ ap (λ b. cond b (Some e.1.fate) None) (above_so e.1.first k d)

record Said (f l n : ℕ) (o : Option (ℕ × Span)) : Type 0 where
  pub row : ℕ × Span
  pub is : o ≡ Some row
  pub starts : row.1.first ≤ l
  pub at : n ≡ max row.1.first f

said : (f l n : ℕ) (o : Option (ℕ × Span)) → first_in f l o ≡ Some n → Said f l n o
said f l n None h = absurd (cc)
said f l n (Some e) h = by (nat_le e.1.first l) refl
  where
    by : (b : Bool) → nat_le e.1.first l ≡ b → Said f l n (Some e)
    by true t = record {
      row = e;
      is = refl;
      starts = at_most_is e.1.first l t;
      at = sym
          (same_Some _ _ (ap (λ b. cond b (Some (max e.1.first f)) None) (sym t) ∙ h));
    }
    by false t = let n : None ≡ Some n = ap (λ b. cond b (Some (max e.1.first f)) None) (sym t) ∙ h in absurd (cc)

some_named : (o : Option Fate) (f : Fate) → o ≡ Some f → IsSome o
some_named o f e = subst (λ (o : Option Fate). IsSome o) (sym e) refl

-- If `first_in` finds a send, that is the least with a fate.
pub first_named : (low f l count n : ℕ) (es : List (ℕ × Span)) → f ≤ l → l + 1 ≡ f + count → AreApart low es
    → first_in f l (from_on f es) ≡ Some n → IsFirstNamed (named es) f count n
first_named low f l count n es le e a h =
    let s = said f l n (from_on f es) h in
    let r = is_row low f es s.row a s.is in
    let n_is : n ≡ max s.row.1.first f = s.at in
    let g : f ≤ n = omega (arith, n_is) in
    let c : n ≤ s.row.0 = omega (arith, n_is, r.some, r.ends) in
    let d : s.row.1.first ≤ n = omega (arith, n_is) in
    let w : n < f + count = omega (arith, n_is, s.starts, e, le) in
    record {
      from = g;
      within = w;
      named = some_named _ s.row.1.fate (get_named low es a n ∙ at_on low f es s.row a s.is n g c ∙ ap
          (λ b. cond b (Some s.row.1.fate) None) (at_most_so s.row.1.first n d));
      least = λ k i j.
          let x : k ≤ s.row.0 = omega (arith, c, j) in
          let y : k < s.row.1.first = omega (arith, n_is, i, j) in
          get_named low es a k ∙ at_on low f es s.row a s.is k i x ∙ ap (λ b. cond b (Some s.row.1.fate) None) (above_so s.row.1.first k y);
    }

none_some : (o : Option Fate) → IsSome o → o ≡ None → ⊥
none_some None h e = absurd (false≢true h)
none_some (Some f) h e = cc

-- At most one send is the first with a fate.
pub one_first : (m : FateMap) (f count n k : ℕ) → IsFirstNamed m f count n → IsFirstNamed m f count k → n ≡ k
one_first m f count n k h g = by (nat_lt n k) refl (nat_lt k n) refl
  where
    by : (b : Bool) → nat_lt n k ≡ b → (c : Bool) → nat_lt k n ≡ c → n ≡ k
    by true t c u = absurd (none_some _ h.named (g.least n h.from (below_is n k t)))
    by false t true u = absurd (none_some _ g.named (h.least k g.from (below_is k n u)))
    by false t false u = omega (arith, below_not n k t, below_not k n u)

pub no_first : (low f l count n : ℕ) (es : List (ℕ × Span)) → l + 1 ≡ f + count → AreApart low es → IsFree f l es
    → IsFirstNamed (named es) f count n → ⊥
no_first low f l count n es e a h g =
    let w : n ≤ l = omega (arith, g.within, e) in
    none_some _ g.named (none_named low f l es a h n g.from w)

-- ---- the fate of a send

pub fate_on : (low n : ℕ) (es : List (ℕ × Span)) (e : ℕ × Span) → AreApart low es → from_on n es ≡ Some e
    → get (named es) n ≡ cond (nat_le e.1.first n) (Some e.1.fate) None
fate_on low n es e a h =
    let r = is_row low n es e a h in
    let k : n ≤ n = omega arith in
    get_named low es a n ∙ at_on low n es e a h n k r.ends

pub no_fate_on : (low n : ℕ) (es : List (ℕ × Span)) → AreApart low es → from_on n es ≡ None → get (named es) n ≡ None
no_fate_on low n es a h = let k : n ≤ n = omega arith in get_named low es a n ∙ none_on n es h n k

-- If the first range that ends at n or later contains n, n has its fate.
pub fate_from : (low n : ℕ) (es : List (ℕ × Span)) (e : ℕ × Span) → AreApart low es → from_on n es ≡ Some e → e.1.first ≤ n
    → get (named es) n ≡ Some e.1.fate
fate_from low n es e a h l = fate_on low n es e a h ∙ ap (λ b. cond b (Some e.1.fate) None) (at_most_so e.1.first n l)

pub fate_past : (low n : ℕ) (es : List (ℕ × Span)) (e : ℕ × Span) → AreApart low es → from_on n es ≡ Some e → n < e.1.first
    → get (named es) n ≡ None
fate_past low n es e a h l = fate_on low n es e a h ∙ ap (λ b. cond b (Some e.1.fate) None) (above_so e.1.first n l)

-- A send has a named fate exactly if its fate is not Answer.
pub lost_named : (low n : ℕ) (es : List (ℕ × Span)) (e : ℕ × Span) → AreApart low es → from_on n es ≡ Some e → {o : Option Fate}
    → o ≡ Some e.1.fate → (is_answer e.1.fate ≡ false) ↔ IsSome o
lost_named low n es e a h {o} is = (λ _. some_named o e.1.fate is, λ _. (is_row low n es e a h).lost)

pub answer_none : (o : Option Fate) → o ≡ None → (true ≡ false) ↔ IsSome o
answer_none o is = (λ e. absurd (true≢false e), λ s. absurd (none_some o s is))

-- ---- the first send with a named fate

pub first_fate : (low n : ℕ) (es : List (ℕ × Span)) (e : ℕ × Span) (m : FateMap) → named es ≡ m → AreApart low es → from_on n es ≡ Some e
    → IsFirstFrom m n (Some (max e.1.first n, e.1.fate))
first_fate low n es e m is a h =
    let r = is_row low n es e a h in
    let s : n ≤ max e.1.first n = omega arith in
    let c : max e.1.first n ≤ e.0 = omega (arith, r.some, r.ends) in
    let d : e.1.first ≤ max e.1.first n = omega arith in
    subst (λ (m : FateMap). IsFirstFrom m n (Some (max e.1.first n, e.1.fate))) is (
      s,
      get_named low es a (max e.1.first n) ∙ at_on low n es e a h (max e.1.first n) s c ∙ ap (λ b. cond b (Some e.1.fate) None)
          (at_most_so e.1.first (max e.1.first n) d),
      λ k i j.
          let x : k ≤ e.0 = omega (arith, c, j) in
          let y : k < e.1.first = omega (arith, i, j) in
          get_named low es a k ∙ at_on low n es e a h k i x ∙ ap (λ b. cond b (Some e.1.fate) None) (above_so e.1.first k y),
    )

pub no_fate : (low n : ℕ) (es : List (ℕ × Span)) (m : FateMap) → named es ≡ m → AreApart low es → from_on n es ≡ None → IsFirstFrom m n None
no_fate low n es m is a h = subst (λ (m : FateMap). IsFirstFrom m n None) is (λ k l. get_named low es a k ∙ none_on n es h k l)
