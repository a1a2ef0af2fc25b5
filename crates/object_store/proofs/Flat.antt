-- Pages without a delimiter, walked from the start on.
use Rattle.text_and_lists.proofs.Bools.{contrary}
use Rattle.text_and_lists.proofs.Naturals.{no_less}
use Rattle.text_and_lists.proofs.Viewed.{entries_viewed, filter_map_same, viewed_sorted}
use Rattle.text_and_lists.specs.Order.{text_cmp, text_total}
use Rattle.object_store.proofs.Own.{own_filter}
use Rattle.object_store.specs.inner.Flat.{Follows, below, single}
use Rattle.object_store.specs.Held.{contents}
use Rattle.object_store.specs.inner.Held.{AreOwn}
use Rattle.object_store.specs.declared.objects.Held.{Held}
use Rattle.s3_types.proofs.Begins.{between}
use Rattle.s3_types.specs.Pages.{begins, entry_of, stem_if}
use Rattle.s3_types.specs.Store.{Objects}
use Rattle.s3_types.specs.declared.object.Object.{Object}
use Rattle.s3_types.specs.declared.reply.PageEntry.{PageEntry}
use Rattle.std.proofs.Common.{Bool, List, ap, append-nil, arith, cond, false, length, map, nat_lt, refl, subst, sym, take, true, ℕ, []}
use Rattle.std.proofs.Common.{◌&&◌, ◌++◌, ◌∙◌, ◌∷◌, ◌≡◌, ◌≤◌}
use Rattle.std.proofs.lemmas.List.{take_all}
use Rattle.std.proofs.lemmas.List.Kept.{IsStrictlySortedBy-filter}
use Rattle.std.proofs.lemmas.Map.Keys.{sorted_head, sorted_tail}
use Rattle.std.specs.BTreeMap.Range.{entries_between, is_from_start}
use Rattle.std.specs.List.{AllByRecursion, filter}
use Rattle.std.specs.List.Sorted.{IsStrictlySortedBy}
use Rattle.std.specs.Map.{keys_of}
use Rattle.std.specs.Ordering.{is_lt}
use Rattle.std.specs.declared.cmp.Ordering.TheVariants.{Less}
use Rattle.std.specs.declared.ops.Bound.{Bound}
use Rattle.std.specs.declared.ops.Bound.TheVariants.{Unbounded}
use Rattle.store_frame.proofs.Prefix.{le_le, lt, lt_not}
use Rattle.store_frame.proofs.Walked.{from_start, kept_between, start_ge, stems}
use Rattle.store_frame.specs.inner.Walk.{start, walked}
use Rattle.std.specs.FinMap as fin

-- ---- the end of a page

none_after : (p k : List ℕ) (es : List (List ℕ × Held)) → lt k p ≡ false → begins p k ≡ false → Follows k es → below p es ≡ []
none_after p k [] g n h = refl
none_after p k (e ∷ es) g n h =
    let m : begins p e.0 ≡ false = contrary (begins p e.0) (λ t. sym n ∙ between p k e.0 g h.0 t) in
    ap (λ b. map (λ (e : List ℕ × Held). single e.0 e.1) (cond b (e ∷ filter (λ e. begins p e.0) es) (filter (λ e. begins p e.0) es))) m
    ∙ none_after p e.0 es (le_le p k e.0 g h.0) m h.1

-- After a key that does not begin with p, no key begins with p.
pub none_left : (p : List ℕ) (rest es : List (List ℕ × Held)) (e : List ℕ × Held) → rest ≡ e ∷ es → Follows p rest → begins p e.0 ≡ false
    → below p rest ≡ []
none_left p rest es e h g f = grind (arith, none_after)

pub follows_rest : (p : List ℕ) (e : List ℕ × Held) (es : List (List ℕ × Held)) → Follows p (e ∷ es) → Follows p es
follows_rest p e [] h = tt
follows_rest p e (f ∷ es) h = (le_le p e.0 f.0 h.0 h.1.0, h.1.1)

-- The page is whole.
whole : (xs rest all : List PageEntry) → xs ++ rest ≡ all → rest ≡ [] → xs ≡ all
whole xs rest all told none = sym (append-nil xs) ∙ ap (λ l. xs ++ l) (sym none) ∙ told

pub taken : (n : ℕ) (xs rest all : List PageEntry) → xs ++ rest ≡ all → rest ≡ [] → length xs ≤ n → xs ≡ take n all
taken n xs rest all told none l = sym (take_all n xs l) ∙ ap (take n) (whole xs rest all told none)

pub no_more : (n : ℕ) (xs rest all : List PageEntry) → xs ++ rest ≡ all → rest ≡ [] → length xs ≤ n → false ≡ nat_lt n (length all)
no_more n xs rest all told none l = no_less n (length xs) l ∙ ap (λ l. nat_lt n (length l)) (whole xs rest all told none)

-- ---- from the start on

-- The keys that begin with p are greater than a.
abbrev Later : List ℕ → List ℕ → List (List ℕ × Object) → Type 0
Later p a es = AllByRecursion (λ e. begins p e.0 ≡ true → lt a e.0 ≡ true) es

later_head : (p a : List ℕ) (es : List (List ℕ × Object)) → AllByRecursion (λ q. text_cmp a q ≡ Less) (keys_of es) → Later p a es
later_head p a [] h = tt
later_head p a (e ∷ es) h = (λ t. ap is_lt h.0, later_head p a es h.1)

abbrev entries_below : List ℕ → List (List ℕ × Object) → List PageEntry
entries_below p es = map (entry_of p false) (filter (λ e. begins p e.0) es)

-- Each of these entries is walked.
each : (p a : List ℕ) (es : List (List ℕ × Object)) → IsStrictlySortedBy text_cmp (keys_of es) → Later p a es
    → walked p false a es ≡ entries_below p es
each p a [] s l = refl
each p a (e ∷ es) s l =
    by (each p a es (sorted_tail text_cmp e.0 (keys_of es) s) l.1)
    (each p e.0 es (sorted_tail text_cmp e.0 (keys_of es) s) (later_head p e.0 es (sorted_head text_cmp e.0 (keys_of es) s)))
    (begins p e.0) refl
  where
    by : walked p false a es ≡ entries_below p es → walked p false e.0 es ≡ entries_below p es → (b : Bool) → begins p e.0 ≡ b
        → walked p false a (e ∷ es) ≡ entries_below p (e ∷ es)
    by h g b e = grind arith

-- The same, for the entries as the tree stores them.
seen : (p : List ℕ) (es : List (List ℕ × Held)) → entries_below p (contents es) ≡ below p es
seen p [] = refl
seen p (e ∷ es) = by (begins p e.0) (seen p es)
  where
    by : (b : Bool) → entries_below p (contents es) ≡ below p es
        → map (entry_of p false) (cond b ((e.0, e.1.object) ∷ filter (λ e. begins p e.0) (contents es))
        (filter (λ e. begins p e.0) (contents es)))
        ≡ map (λ (e : List ℕ × Held). single e.0 e.1) (cond b (e ∷ filter (λ e. begins p e.0) es) (filter (λ e. begins p e.0) es))
    by b h = grind arith

-- The entries from the start on.
from : {V : Type 0} → List ℕ → List ℕ → List (List ℕ × V) → List (List ℕ × V)
from p a es = entries_between text_cmp (start p false a) Unbounded es

all_from : {V : Type 0} (p a : List ℕ) (es : List (List ℕ × V))
    → AllByRecursion (λ e. is_from_start text_cmp (start p false a) e.0 ≡ true) (from p a es)
unfolding from
all_from p a [] = tt
all_from {V} p a (e ∷ es) = by (is_from_start text_cmp (start p false a) e.0 && true) refl (all_from p a es)
  where
    by : (b : Bool) → (is_from_start text_cmp (start p false a) e.0 && true) ≡ b
        → AllByRecursion (λ e. is_from_start text_cmp (start p false a) e.0 ≡ true) (from p a es)
        → AllByRecursion (λ e. is_from_start text_cmp (start p false a) e.0 ≡ true) (cond b (e ∷ from p a es) (from p a es))
    by b h g = grind arith

sorted_from : {V : Type 0} (p a : List ℕ) (es : List (List ℕ × V)) → IsStrictlySortedBy text_cmp (keys_of es)
    → IsStrictlySortedBy text_cmp (keys_of (from p a es))
unfolding from
sorted_from {V} p a es s =
    subst (IsStrictlySortedBy text_cmp) (sym (keys es)) (IsStrictlySortedBy-filter text_cmp
    (λ k. is_from_start text_cmp (start p false a) k && true) (keys_of es) s)
  where
    keys : (es : List (List ℕ × V)) → keys_of (from p a es) ≡ filter (λ k. is_from_start text_cmp (start p false a) k && true) (keys_of es)
    keys [] = refl
    keys (e ∷ es) = by (is_from_start text_cmp (start p false a) e.0 && true) (keys es)
      where
        by : (b : Bool) → keys_of (from p a es) ≡ filter (λ k. is_from_start text_cmp (start p false a) k && true) (keys_of es)
            → keys_of (cond b (e ∷ from p a es) (from p a es)) ≡ cond b (e.0 ∷ filter
            (λ k. is_from_start text_cmp (start p false a) k && true) (keys_of es))
            (filter (λ k. is_from_start text_cmp (start p false a) k && true) (keys_of es))
        by b h = grind arith

later_from : (p a : List ℕ) (es : List (List ℕ × Object)) → AllByRecursion (λ e. is_from_start text_cmp (start p false a) e.0 ≡ true) es
    → Later p a es
later_from p a [] h = tt
later_from p a (e ∷ es) h = (λ t. from_start p (stem_if false p) (stems p false) a e.0 t ∙ h.0, later_from p a es h.1)

follows : (p : List ℕ) (es : List (List ℕ × Held)) → AllByRecursion (λ e. lt e.0 p ≡ false) es → IsStrictlySortedBy text_cmp (keys_of es)
    → Follows p es
follows p [] h s = tt
follows p (e ∷ es) h s = (
  h.0,
  follows e.0 es (above es (sorted_head text_cmp e.0 (keys_of es) s))
      (sorted_tail text_cmp e.0 (keys_of es) s),
)
  where
    above : (es : List (List ℕ × Held)) → AllByRecursion (λ q. text_cmp e.0 q ≡ Less) (keys_of es)
        → AllByRecursion (λ f. lt f.0 e.0 ≡ false) es
    above [] h = tt
    above (f ∷ es) h = (lt_not e.0 f.0 (ap is_lt h.0), above es h.1)

not_before : (p a : List ℕ) (es : List (List ℕ × Held)) → AllByRecursion (λ e. is_from_start text_cmp (start p false a) e.0 ≡ true) es
    → AllByRecursion (λ e. lt e.0 p ≡ false) es
not_before p a [] h = tt
not_before p a (e ∷ es) h = (start_ge p false a e.0 h.0, not_before p a es h.1)

-- The entries that are left at the start of a page after `after`.
pub record IsRest (p a : List ℕ) (m : Objects) (rest : List (List ℕ × Held)) : Type 0 where
  pub follows : Follows p rest
  pub own : AreOwn rest
  pub all : below p rest ≡ walked p false a (fin.entries m)

pub flat_rest : (p a : List ℕ) (lo : Bound (List ℕ)) (es rest : List (List ℕ × Held)) (m : Objects) → lo ≡ start p false a
    → rest ≡ entries_between text_cmp lo Unbounded es
    → IsStrictlySortedBy text_cmp (keys_of es) → AreOwn es → fin.from_entries (contents es) ≡ m → IsRest p a m rest
unfolding from
flat_rest p a lo es rest m is e s own same =
    let t = viewed_sorted (λ (h : Held). h.object) text_total es s in
    subst (IsRest p a m) (sym (e ∙ ap (λ lo. entries_between text_cmp lo Unbounded es) is)) (record {
      follows = follows p (from p a es) (not_before p a (from p a es) (all_from p a es)) (sorted_from p a es s);
      own = own_filter _ es own;
      all =
          sym (seen p (from p a es))
          ∙ ap (entries_below p) (sym (filter_map_same (λ (e : List ℕ × Held). (e.0, e.1.object))
          (λ e. is_from_start text_cmp (start p false a) e.0 && true) (λ e. is_from_start text_cmp (start p false a) e.0 && true)
          (λ x. refl) es))
          ∙ sym (each p a (from p a (contents es)) (sorted_from p a (contents es) t)
          (later_from p a (from p a (contents es)) (all_from p a (contents es))))
          ∙ kept_between p false (contents es) t a
          ∙ ap (walked p false a) (sym (entries_viewed (λ (h : Held). h.object) text_total es s) ∙ ap fin.entries same);
    })
