-- How many entries of a finite map pass a test, before and after one is put in or removed.
use Rattle.text_and_lists.proofs.Members.{none_some}
use Rattle.text_and_lists.proofs.Tree.{entries_empty}
use Rattle.list_walk.specs.Left.{one_if as one}
use Rattle.std.proofs.Common.{Bool, List, None, ap, arith, cond, false, length, not, refl, subst, sym, true, ℕ, [], ◌+◌, ◌∙◌, ◌∷◌, ◌≡◌, ◌≤◌}
use Rattle.std.proofs.lemmas.Map.Lookups.{CmpEqualImpliesEq}
use Rattle.std.specs.Cmp.{IsTotalOrder, alike_right, eq_by_cmp_equiv}
use Rattle.std.specs.FinMap.{FinMap, entries, entries-from_sorted, entries-insert, entries_sorted, from_entries, from_sorted, get-entries}
use Rattle.std.specs.FinMap.{get-from_entries, get-from_sorted, get-remove, insert, remove, same_map}
use Rattle.std.specs.FinMap.Entries.{by_order, find, find-where_key, is_sorted-where_key, put, where_key}
use Rattle.std.specs.List.{filter}
use Rattle.std.specs.Ordering.{eq_by_cmp, is_eq}
use Rattle.std.specs.declared.cmp.Ordering.{Ordering}
use Rattle.std.specs.declared.cmp.Ordering.TheVariants.{Equal, Greater, Less}

abbrev pub count : {E : Type 0} → (E → Bool) → List E → ℕ
count t es = length (filter t es)

pub count_more : {E : Type 0} (t : E → Bool) (e : E) (es : List E) → count t (e ∷ es) ≡ one (t e) + count t es
count_more t e es = elim (t e) as (λ b. length (cond b (e ∷ filter t es) (filter t es)) ≡ one b + length (filter t es))
    [ true ↦ omega arith | false ↦ omega arith ]

pub one_most : (b : Bool) → one b ≤ 1
one_most true = omega arith
one_most false = omega arith

-- No more entries pass two tests than pass one.
pub count_where : {E : Type 0} (t q : E → Bool) (es : List E) → count t (filter q es) ≤ count t es
count_where t q [] = omega arith
count_where t q (e ∷ es) = elim (q e) as (λ b. count t (cond b (e ∷ filter q es) (filter q es)) ≤ count t (e ∷ es)) [
  | true ↦ omega (arith, count_where t q es, count_more t e (filter q es), count_more t e es)
  | false ↦ omega (arith, count_where t q es, count_more t e es)
]

module _ {K X : Type 0} (R : K → K → Ordering) (t : K × X → Bool) where
  pub count_put : (k : K) (v : X) (es : List (K × X)) → count t (put R k v es) ≤ count t es + 1
  count_put k v [] = let m = one_most (t (k, v)) in omega (arith, count_more t (k, v) [], m)
  count_put k v (e ∷ es) = elim (R k e.0) as (λ r. count t (by_order r ((k, v) ∷ e ∷ es) ((e.0, v) ∷ es) (e ∷ put R k v es)) ≤ count t
      (e ∷ es) + 1) [
        | Less ↦ omega (arith, count_more t (k, v) (e ∷ es), one_most (t (k, v)))
        | Equal ↦ omega (arith, count_more t (e.0, v) es, count_more t e es, one_most (t (e.0, v)))
        | Greater ↦ omega (arith, count_put k v es, count_more t e (put R k v es), count_more t e es)
      ]

  -- Putting a new key adds one, if its entry passes the test.
  pub count_new : (k : K) (v : X) (es : List (K × X)) → find R k es ≡ None → count t (put R k v es) ≡ one (t (k, v)) + count t es
  count_new k v [] h = count_more t (k, v) []
  count_new k v (e ∷ es) h = elim (R k e.0) as (λ r. R k e.0 ≡ r
      → count t (by_order r ((k, v) ∷ e ∷ es) ((e.0, v) ∷ es) (e ∷ put R k v es)) ≡ one (t (k, v)) + count t (e ∷ es)) [
        | Less ↦ λ i. count_more t (k, v) (e ∷ es)
        | Equal ↦ λ i. absurd (none_some (rw i at h) refl)
        | Greater ↦ λ i. omega (arith, count_new k v es (rw i at h), count_more t e (put R k v es), count_more t e es)
      ] refl

module _ {K X : Type 0} {R : K → K → Ordering} (o : IsTotalOrder R) where
  -- The entries of a map without a key.
  pub entries_removed : CmpEqualImpliesEq R → (m : FinMap R X) (k : K)
      → entries (remove m k) ≡ where_key R (λ x. not (eq_by_cmp R k x)) (entries m)
  entries_removed exact m k =
      ap entries (same_map o exact (remove m k) (from_sorted (where_key R (λ x. not (eq_by_cmp R k x)) (entries m))) (λ q.
      get-remove o m k q
      ∙ sym (get-from_sorted R (where_key R (λ x. not (eq_by_cmp R k x)) (entries m)) q
      (is_sorted-where_key R (λ x. not (eq_by_cmp R k x)) (entries m) (entries_sorted m))
      ∙ find-where_key R (λ x. not (eq_by_cmp R k x)) q (λ x e. ap (λ r. not (is_eq r)) (sym (alike_right o q x k e))) (entries m)
      ∙ turned (eq_by_cmp R k q) (find R q (entries m)) None
      ∙ ap (λ b. cond b None (find R q (entries m))) ((eq_by_cmp_equiv o).symm k q)
      ∙ ap (cond (eq_by_cmp R q k) None) (sym (get-entries m q)))))
      ∙ entries-from_sorted R (where_key R (λ x. not (eq_by_cmp R k x)) (entries m))
      (is_sorted-where_key R (λ x. not (eq_by_cmp R k x)) (entries m) (entries_sorted m))
    where
      turned : {A : Type 0} (b : Bool) (x y : A) → cond (not b) x y ≡ cond b y x
      turned true x y = refl
      turned false x y = refl

  pub count_insert : (t : K × X → Bool) (m : FinMap R X) (k : K) (v : X) → count t (entries (insert m k v)) ≤ count t (entries m) + 1
  count_insert t m k v = subst (λ l. count t l ≤ count t (entries m) + 1) (sym (entries-insert o m k v)) (count_put R t k v (entries m))

  pub count_remove : CmpEqualImpliesEq R → (t : K × X → Bool) (m : FinMap R X) (k : K)
      → count t (entries (remove m k)) ≤ count t (entries m)
  count_remove exact t m k = subst (λ l. count t l ≤ count t (entries m)) (sym (entries_removed exact m k))
      (count_where t (λ e. not (eq_by_cmp R k e.0)) (entries m))

  -- Each key does not occur in the entries after it.
  abbrev pub AreNew : List (K × X) → Type 0
  AreNew [] = Unit {0}
  AreNew (e ∷ es) = (find R e.0 es ≡ None) × AreNew es

  -- The map of such entries has as many that pass the test.
  pub count_made : (t : K × X → Bool) (es : List (K × X)) → AreNew es → count t (entries (from_entries {R = R} es)) ≡ count t es
  count_made t [] h = ap (count t) (entries_empty R)
  count_made t (e ∷ es) h =
      ap (count t) (entries-insert o (from_entries {R = R} es) e.0 e.1)
      ∙ count_new R t e.0 e.1 (entries (from_entries {R = R} es)) (sym (get-entries (from_entries {R = R} es) e.0) ∙ get-from_entries o es
      e.0 ∙ h.0)
      ∙ ap (λ n. one (t e) + n) (count_made t es h.1) ∙ sym (count_more t e es)
