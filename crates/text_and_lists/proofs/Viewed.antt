-- The entries of a `BTreeMap` as a finite map, with each value seen as another.
use Rattle.text_and_lists.proofs.Tree.{entries_made, get_made, len_made, made_insert, made_remove}
use Rattle.std.proofs.Common.{Bool, List, None, Option, Some, ap, cond, false, length, map, refl, subst, sym, true, [], ◌∙◌, ◌∷◌, ◌≡◌}
use Rattle.std.proofs.lemmas.List.{length-map}
use Rattle.std.proofs.lemmas.Map.Lookups.{CmpEqualImpliesEq}
use Rattle.std.proofs.lemmas.Map.Made.{keys_of-map_values, lookup-map_values}
use Rattle.std.specs.BTreeMap.{is_at}
use Rattle.std.specs.BTreeMap.Range.{entries_between, range_contains}
use Rattle.std.specs.Cmp.{IsTotalOrder}
use Rattle.std.specs.FinMap.{entries, from_entries, get, insert, len, remove}
use Rattle.std.specs.List.{filter, slice_get}
use Rattle.std.specs.List.Sorted.{IsStrictlySortedBy}
use Rattle.std.specs.Map.{keys_of, lookup}
use Rattle.std.specs.Option.{option_map}
use Rattle.std.specs.declared.cmp.Ordering.{Ordering}
use Rattle.std.specs.declared.ops.Bound.{Bound}

-- The first of a mapped list is the image of the first of the list.
pub first_map : {A B : Type 0} (f : A → B) (xs : List A) → slice_get (map f xs) 0 ≡ option_map f (slice_get xs 0)
first_map f [] = refl
first_map f (x ∷ xs) = refl

-- A test on mapped values can be made before the mapping.
pub filter_map_same : {A B : Type 0} (f : A → B) (p : A → Bool) (q : B → Bool) → ((x : A) → q (f x) ≡ p x) → (xs : List A)
    → filter q (map f xs) ≡ map f (filter p xs)
filter_map_same f p q same [] = refl
filter_map_same f p q same (x ∷ xs) = ap (λ b. cond b (f x ∷ filter q (map f xs)) (filter q (map f xs))) (same x) ∙ by (p x)
    (filter_map_same f p q same xs)
  where
    by : (b : Bool) → filter q (map f xs) ≡ map f (filter p xs)
        → cond b (f x ∷ filter q (map f xs)) (filter q (map f xs)) ≡ map f (cond b (x ∷ filter p xs) (filter p xs))
    by true ih = ap (λ l. f x ∷ l) ih
    by false ih = ih

at_cond : {V X : Type 0} (f : V → X) (b : Bool) (o p : Option V) → option_map f (cond b o p) ≡ cond b (option_map f o) (option_map f p)
at_cond f true o p = refl
at_cond f false o p = refl

module _ {K V X : Type 0} (f : V → X) where
  -- The entries with each value seen as another.
  abbrev pub viewed : List (K × V) → List (K × X)
  viewed es = map (λ e. (e.0, f e.1)) es

  -- The first of the entries between two bounds.
  pub first_between : (R : K → K → Ordering) (lo hi : Bound K) (es : List (K × V))
      → slice_get (entries_between R lo hi (viewed es)) 0 ≡ option_map (λ e. (e.0, f e.1)) (slice_get (entries_between R lo hi es) 0)
  first_between R lo hi es =
      ap (λ (l : List (K × X)). slice_get l 0) (filter_map_same (λ (e : K × V). (e.0, f e.1)) (λ e. range_contains R lo hi e.0)
      (λ e. range_contains R lo hi e.0) (λ e. refl) es)
      ∙ first_map (λ e. (e.0, f e.1)) (entries_between R lo hi es)

  module _ {R : K → K → Ordering} (o : IsTotalOrder R) where
    pub get_viewed : (es : List (K × V)) (q : K) → get (from_entries {R = R} (viewed es)) q ≡ option_map f (lookup (is_at (R q)) es)
    get_viewed es q = get_made o (viewed es) q ∙ lookup-map_values f (is_at (R q)) es

    viewed_update : (es fs : List (K × V)) (b : Bool) (w : Option V) (q : K) → lookup (is_at (R q)) fs ≡ cond b w (lookup (is_at (R q)) es)
        → lookup (is_at (R q)) (viewed fs) ≡ cond b (option_map f w) (lookup (is_at (R q)) (viewed es))
    viewed_update es fs b w q h =
        lookup-map_values f (is_at (R q)) fs ∙ ap (option_map f) h ∙ at_cond f b w (lookup (is_at (R q)) es)
        ∙ ap (cond b (option_map f w)) (sym (lookup-map_values f (is_at (R q)) es))

    pub viewed_insert : CmpEqualImpliesEq R → (es fs : List (K × V)) (k : K) (v : V)
        → ((q : K) → lookup (is_at (R q)) fs ≡ cond (is_at (R k) q) (Some v) (lookup (is_at (R q)) es))
        → from_entries {R = R} (viewed fs) ≡ insert (from_entries (viewed es)) k (f v)
    viewed_insert exact es fs k v h = made_insert o exact (viewed es) (viewed fs) k (f v)
        (λ q. viewed_update es fs (is_at (R k) q) (Some v) q (h q))

    pub viewed_remove : CmpEqualImpliesEq R → (es fs : List (K × V)) (k : K)
        → ((q : K) → lookup (is_at (R q)) fs ≡ cond (is_at (R k) q) None (lookup (is_at (R q)) es))
        → from_entries {R = R} (viewed fs) ≡ remove (from_entries (viewed es)) k
    viewed_remove exact es fs k h = made_remove o exact (viewed es) (viewed fs) k (λ q. viewed_update es fs (is_at (R k) q) None q (h q))

    pub viewed_sorted : (es : List (K × V)) → IsStrictlySortedBy R (keys_of es) → IsStrictlySortedBy R (keys_of (viewed es))
    viewed_sorted es s = subst (IsStrictlySortedBy R) (sym (keys_of-map_values f es)) s

    -- Entries in order, with each value seen as another, are the entries of the map that they make.
    pub entries_viewed : (es : List (K × V)) → IsStrictlySortedBy R (keys_of es) → entries (from_entries {R = R} (viewed es)) ≡ viewed es
    entries_viewed es s = entries_made o (viewed es) (viewed_sorted es s)

    pub len_viewed : (es : List (K × V)) → IsStrictlySortedBy R (keys_of es) → len (from_entries {R = R} (viewed es)) ≡ length es
    len_viewed es s = len_made o (viewed es) (viewed_sorted es s) ∙ length-map es (λ (e : K × V). (e.0, f e.1))
