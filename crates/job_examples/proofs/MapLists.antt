-- Finite maps as lists of entries.
use Rattle.std.proofs.Common.{Bool, List, None, Option, Some, T, ap, arith, cond, false, map, not, refl, subst, sym, true, [], ◌∙◌, ◌∷◌}
use Rattle.std.proofs.Common.{◌≡◌}
use Rattle.std.specs.Cmp.{IsTotalOrder, eq_by_cmp_equiv}
use Rattle.std.specs.FinMap.{FinMap, IsAntisymmetric, entries, entries-from_sorted, from_entries, from_sorted, get, get-from_entries}
use Rattle.std.specs.FinMap.{get-from_sorted, get-insert, get-remove, insert, remove, same_map}
use Rattle.std.specs.FinMap.Entries.{find, find-put, find-where_key, is_sorted, put, where_key}
use Rattle.std.specs.Option.{option_map}
use Rattle.std.specs.Ordering.{eq_by_cmp}
use Rattle.std.specs.declared.cmp.Ordering.{Ordering}

turned : {X : Type 0} (b : Bool) (x : Option X) → cond (not b) x None ≡ cond b None x
turned b x = grind arith

-- The map of these entries.
unfoldable pub map_of : {K X : Type 0} {R : K → K → Ordering} → List (K × X) → FinMap R X
map_of es = from_entries es

-- The entries at other keys.
abbrev pub others : {K X : Type 0} (R : K → K → Ordering) → K → List (K × X) → List (K × X)
others R k es = where_key R (λ x. not (eq_by_cmp R k x)) es

module _ {K X : Type 0} {R : K → K → Ordering} (o : IsTotalOrder R) (exact : IsAntisymmetric R) where
  pub found_is : (es : List (K × X)) (q : K) → get (map_of {R = R} es) q ≡ find R q es
  unfolding map_of
  found_is es q = get-from_entries o es q

  pub put_is : (es : List (K × X)) (k : K) (v : X) → insert (map_of {R = R} es) k v ≡ map_of (put R k v es)
  put_is es k v = same_map o exact _ _ (λ q. get-insert o (map_of es) k v q ∙ ap (cond (eq_by_cmp R q k) (Some v)) (found_is es q) ∙ sym
      (find-put R o q k v es) ∙ sym (found_is (put R k v es) q))

  pub removed_is : (es : List (K × X)) (k : K) → remove (map_of {R = R} es) k ≡ map_of (others R k es)
  removed_is es k = same_map o exact _ _ (λ q.
      get-remove o (map_of es) k q
      ∙ ap (cond (eq_by_cmp R q k) None) (found_is es q)
      ∙ ap (λ b. cond b None (find R q es)) (sym ((eq_by_cmp_equiv o).symm k q))
      ∙ sym (turned (eq_by_cmp R k q) (find R q es))
      ∙ sym (find-where_key R (λ x. not (eq_by_cmp R k x)) q (λ x t. ap (λ y. not (eq_by_cmp R k y)) (sym (exact q x t))) es)
      ∙ sym (found_is (others R k es) q))

  pub sorted_is : (es : List (K × X)) → is_sorted R es ≡ true → entries (map_of {R = R} es) ≡ es
  sorted_is es e = let h = subst T (sym e) tt in ap entries (same_map o exact (map_of es) (from_sorted es)
      (λ q. found_is es q ∙ sym (get-from_sorted R es q h))) ∙ entries-from_sorted R es h

  pub get_put : (m : FinMap R X) (k : K) (v : X) → get (insert m k v) k ≡ Some v
  get_put m k v = get-insert o m k v k ∙ ap (λ b. cond b (Some v) (get m k)) ((eq_by_cmp_equiv o).refl k)

  pub put_twice : (m : FinMap R X) (k : K) (v u : X) → insert (insert m k v) k u ≡ insert m k u
  put_twice m k v u = same_map o exact _ _ (λ q. get-insert o (insert m k v) k u q ∙ ap (cond (eq_by_cmp R q k) (Some u))
      (get-insert o m k v q) ∙ elim (eq_by_cmp R q k) as (λ b. cond b (Some u) (cond b (Some v) (get m q)) ≡ cond b (Some u) (get m q))
      [ true ↦ refl | false ↦ refl ] ∙ sym (get-insert o m k u q))

-- A function of a value that is found or not.
pub mapped : {X Y : Type 0} (f : X → Y) (b : Bool) (x : X) (o : Option X)
    → option_map f (cond b (Some x) o) ≡ cond b (Some (f x)) (option_map f o)
mapped f b x o = grind arith

pub find_map : {K X Y : Type 0} (R : K → K → Ordering) (f : X → Y) (es : List (K × X)) (q : K)
    → find R q (map (λ e. (e.0, f e.1)) es) ≡ option_map f (find R q es)
find_map R f [] q = refl
find_map R f (e ∷ es) q = ap (cond (eq_by_cmp R q e.0) (Some (f e.1))) (find_map R f es q) ∙ sym
    (mapped f (eq_by_cmp R q e.0) e.1 (find R q es))
