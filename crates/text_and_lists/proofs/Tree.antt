-- The entries of a `BTreeMap`, seen as a finite map.
use Rattle.std.proofs.Common.{Bool, List, None, Option, Some, T, ap, arith, cond, false, length, refl, sym, true, [], ◌∙◌, ◌∷◌, ◌≡◌}
use Rattle.std.proofs.Math.Facts.{and_yes}
use Rattle.std.proofs.lemmas.Map.Keys.{sorted_head, sorted_tail}
use Rattle.std.proofs.lemmas.Map.Lookups.{CmpEqualImpliesEq}
use Rattle.std.specs.BTreeMap.{is_at}
use Rattle.std.specs.Cmp.{IsTotalOrder, eq_by_cmp_equiv}
use Rattle.std.specs.FinMap.{FinMap, empty, entries, entries-insert, entries_sorted, from_entries, get, get-from_entries, get-insert}
use Rattle.std.specs.FinMap.{get-remove, insert, len, len-empty, len-entries, remove, same_map}
use Rattle.std.specs.FinMap.Entries.{below_all, by_order, find, is_sorted, put}
use Rattle.std.specs.List.{AllByRecursion, filter, slice_get}
use Rattle.std.specs.List.Sorted.{IsStrictlySortedBy}
use Rattle.std.specs.Map.{keys_of, lookup}
use Rattle.std.specs.Map.Iter.{TakesFirst}
use Rattle.std.specs.Option.{option_map}
use Rattle.std.specs.Ordering.{eq_by_cmp, is_eq, is_lt}
use Rattle.std.specs.declared.cmp.Ordering.{Ordering}
use Rattle.std.specs.declared.cmp.Ordering.TheVariants.{Equal, Less}

no_length : {A : Type 0} (es : List A) → length es ≡ 0 → es ≡ []
no_length [] e = refl
no_length (x ∷ es) e = absurd (omega arith)

pub entries_empty : {K X : Type 0} (R : K → K → Ordering) → entries (empty {X = X} {R = R}) ≡ []
entries_empty {K} {X} R = no_length _ (sym (len-entries (empty {X = X} {R = R})) ∙ len-empty R X)

pub tied : (r : Ordering) → is_eq r ≡ true → r ≡ Equal
tied Equal h = refl
tied _ h = absurd (cc)

module _ {K X : Type 0} {R : K → K → Ordering} (o : IsTotalOrder R) (exact : CmpEqualImpliesEq R) where
  -- Putting the value that is there changes nothing.
  pub insert_same : (m : FinMap R X) (k : K) (v : X) → get m k ≡ Some v → insert m k v ≡ m
  insert_same m k v h = same_map o exact _ _ (λ q. get-insert o m k v q ∙ by q (eq_by_cmp R q k) refl)
    where
      by : (q : K) (b : Bool) → eq_by_cmp R q k ≡ b → cond (eq_by_cmp R q k) (Some v) (get m q) ≡ get m q
      by q true e = ap (λ b. cond b (Some v) (get m q)) e ∙ sym h ∙ ap (get m) (sym (exact q k (tied (R q k) e)))
      by q false e = ap (λ b. cond b (Some v) (get m q)) e

  -- Putting in a new key and removing it changes nothing.
  pub insert_remove : (m : FinMap R X) (k : K) (v : X) → get m k ≡ None → remove (insert m k v) k ≡ m
  insert_remove m k v h = same_map o exact _ _ (λ q. get-remove o (insert m k v) k q ∙ ap (cond (eq_by_cmp R q k) None)
      (get-insert o m k v q) ∙ by q (eq_by_cmp R q k) refl)
    where
      by : (q : K) (b : Bool) → eq_by_cmp R q k ≡ b → cond (eq_by_cmp R q k) None (cond (eq_by_cmp R q k) (Some v) (get m q)) ≡ get m q
      by q true e = ap (λ b. cond b None (cond b (Some v) (get m q))) e ∙ sym h ∙ ap (get m) (sym (exact q k (tied (R q k) e)))
      by q false e = ap (λ b. cond b None (cond b (Some v) (get m q))) e

module _ {K X : Type 0} {R : K → K → Ordering} (o : IsTotalOrder R) where
  find_lookup : (es : List (K × X)) (q : K) → find R q es ≡ lookup (is_at (R q)) es
  find_lookup [] q = refl
  find_lookup (e ∷ es) q = ap (cond (is_at (R q) e.0) (Some e.1)) (find_lookup es q)

  -- The value at a key in the map that the entries make.
  pub get_made : (es : List (K × X)) (q : K) → get (from_entries {R = R} es) q ≡ lookup (is_at (R q)) es
  get_made es q = get-from_entries o es q ∙ find_lookup es q

  pub made_insert : CmpEqualImpliesEq R → (es fs : List (K × X)) (k : K) (v : X)
      → ((q : K) → lookup (is_at (R q)) fs ≡ cond (is_at (R k) q) (Some v) (lookup (is_at (R q)) es))
      → from_entries {R = R} fs ≡ insert (from_entries es) k v
  made_insert exact es fs k v h = same_map o exact _ _ (λ q.
      get_made fs q ∙ h q ∙ ap (λ b. cond b (Some v) (lookup (is_at (R q)) es)) ((eq_by_cmp_equiv o).symm k q)
      ∙ sym (get-insert o (from_entries es) k v q ∙ ap (cond (is_at (R q) k) (Some v)) (get_made es q)))

  pub made_remove : CmpEqualImpliesEq R → (es fs : List (K × X)) (k : K)
      → ((q : K) → lookup (is_at (R q)) fs ≡ cond (is_at (R k) q) None (lookup (is_at (R q)) es))
      → from_entries {R = R} fs ≡ remove (from_entries es) k
  made_remove exact es fs k h = same_map o exact _ _ (λ q.
      get_made fs q ∙ h q ∙ ap (λ b. cond b None (lookup (is_at (R q)) es)) ((eq_by_cmp_equiv o).symm k q)
      ∙ sym (get-remove o (from_entries es) k q ∙ ap (cond (is_at (R q) k) None) (get_made es q)))

  put_first : (e : K × X) (es : List (K × X)) → AllByRecursion (λ y. R e.0 y ≡ Less) (keys_of es) → put R e.0 e.1 es ≡ e ∷ es
  put_first e [] h = refl
  put_first e (f ∷ fs) h = ap (λ r. by_order r (e ∷ f ∷ fs) ((f.0, e.1) ∷ fs) (f ∷ put R e.0 e.1 fs)) h.0

  -- Entries in order are the entries of the map that they make.
  pub entries_made : (es : List (K × X)) → IsStrictlySortedBy R (keys_of es) → entries (from_entries {R = R} es) ≡ es
  entries_made [] s = entries_empty R
  entries_made (e ∷ es) s =
      entries-insert o (from_entries es) e.0 e.1 ∙ ap (put R e.0 e.1) (entries_made es (sorted_tail R e.0 (keys_of es) s))
      ∙ put_first e es (sorted_head R e.0 (keys_of es) s)

  pub len_made : (es : List (K × X)) → IsStrictlySortedBy R (keys_of es) → len (from_entries {R = R} es) ≡ length es
  len_made es s = len-entries (from_entries es) ∙ ap length (entries_made es s)

-- `next` returns the first of the entries that were left.
pub first_taken : {A X : Type 0} (shows : A → X) (s t : List X) (r : Option A) → TakesFirst shows s r t → option_map shows r ≡ slice_get s 0
first_taken shows s t None h = sym (ap (λ (l : List _). slice_get l 0) h.0)
first_taken shows s t (Some x) h = sym (ap (λ (l : List _). slice_get l 0) h)

pub filter_all : {A : Type 0} (es : List A) → filter (λ e. true) es ≡ es
filter_all [] = refl
filter_all (e ∷ es) = ap (λ l. e ∷ l) (filter_all es)

less_T : (r : Ordering) → T (is_lt r) → r ≡ Less
less_T Less h = refl
less_T _ h = absurd h

module _ {K X : Type 0} (R : K → K → Ordering) where
  all_above : (k : K) (es : List (K × X)) → T (below_all R k es) → AllByRecursion (λ y. R k y ≡ Less) (keys_of es)
  all_above k [] h = tt
  all_above k (e ∷ es) h = let p = and_yes (is_lt (R k e.0)) (below_all R k es) h in (less_T _ p.0, all_above k es p.1)

  sorted_keys : (es : List (K × X)) → T (is_sorted R es) → IsStrictlySortedBy R (keys_of es)
  unfolding IsStrictlySortedBy
  sorted_keys [] h = tt
  sorted_keys (e ∷ es) h = let p = and_yes (below_all R e.0 es) (is_sorted R es) h in (all_above e.0 es p.0, sorted_keys es p.1)

  -- The keys of every finite map rise.
  pub map_sorted : (m : FinMap R X) → IsStrictlySortedBy R (keys_of (entries m))
  map_sorted m = sorted_keys (entries m) (entries_sorted m)
