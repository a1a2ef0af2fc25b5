-- A listing without a delimiter has the existing keys, in order.
use Rattle.text_and_lists.proofs.Bools.{contrary}
use Rattle.text_and_lists.proofs.Less.{irrefl, lt, lt_trans}
use Rattle.text_and_lists.proofs.Members.{false_true, filter_in, in_filter, in_map, map_in, none_some, some_is, text_exact, text_false}
use Rattle.text_and_lists.proofs.Members.{text_true}
use Rattle.text_and_lists.proofs.Members.{true_or_false}
use Rattle.text_and_lists.proofs.Tree.{map_sorted, tied}
use Rattle.text_and_lists.specs.Members.{IsIn, RisesFrom, last_from}
use Rattle.text_and_lists.specs.Order.{text_cmp, text_ties, text_total}
use Rattle.s3_types.specs.Pages.{begins, entry_of, folded_from, is_again, listed, text_in}
use Rattle.s3_types.specs.Store.{Objects}
use Rattle.s3_types.specs.declared.object.Object.{Object}
use Rattle.s3_types.specs.declared.reply.PageEntry.{PageEntry}
use Rattle.std.proofs.Common.{Bool, List, None, Some, ap, arith, false, inl, inr, length, map, nat_lt, refl, subst, suc, sym, take, true}
use Rattle.std.proofs.Common.{zero, ℕ, [], ◌++◌, ◌∙◌, ◌∷◌, ◌≡◌, ◌≤◌, ◌⊎◌}
use Rattle.std.proofs.lemmas.Bool.{ltb-false}
use Rattle.std.proofs.lemmas.Map.Keys.{sorted_head, sorted_tail}
use Rattle.std.specs.FinMap.Entries.{find}
use Rattle.std.specs.List.{AllByRecursion, filter}
use Rattle.std.specs.List.Sorted.{IsStrictlySortedBy}
use Rattle.std.specs.Map.{keys_of}
use Rattle.std.specs.Ordering.{eq_by_cmp, is_lt}
use Rattle.std.specs.declared.cmp.Ordering.TheVariants.{Less}
use Rattle.store_frame.specs.PageLaws.{keys_listed}
use Rattle.std.specs.FinMap as fin

-- ---- the listed keys rise

abbrev Entry : Type 0
Entry = List ℕ × Object

abbrev pub texts : List PageEntry → List (List ℕ)
texts xs = map text_in xs

-- The entries of the keys that begin with p, before folding.
abbrev flat : List ℕ → List Entry → List PageEntry
flat p es = map (entry_of p false) (filter (λ e. begins p e.0) es)

rises_above : (p k : List ℕ) (t : PageEntry → Bool) (es : List Entry) → AllByRecursion (λ q. text_cmp k q ≡ Less) (keys_of es)
    → IsStrictlySortedBy text_cmp (keys_of es) → RisesFrom k (texts (filter t (flat p es)))
rises_above p k t [] a s = tt
rises_above p k t (e ∷ es) a s = elim (true_or_false (begins p e.0)) [
  | inr b ↦ rw b (rises_above p k t es a.1 (sorted_tail text_cmp e.0 (keys_of es) s))
  | inl b ↦ elim (true_or_false (t (entry_of p false e))) [
    | inr c ↦ rw (b, c) (rises_above p k t es a.1 (sorted_tail text_cmp e.0 (keys_of es) s))
    | inl c ↦ rw (b, c) (
      ap is_lt a.0,
      rises_above p e.0 t es (sorted_head text_cmp e.0 (keys_of es) s)
          (sorted_tail text_cmp e.0 (keys_of es) s),
    )
  ]
]

-- The entries with texts greater than l.
abbrev behind_of : List ℕ → List PageEntry → List PageEntry
behind_of l xs = filter (λ x. is_lt (text_cmp l (text_in x))) xs

rises_behind : (p l : List ℕ) (es : List Entry) → IsStrictlySortedBy text_cmp (keys_of es) → RisesFrom l (texts (behind_of l (flat p es)))
rises_behind p l [] s = tt
rises_behind p l (e ∷ es) s = elim (true_or_false (begins p e.0)) [
  | inr b ↦ rw b (rises_behind p l es (sorted_tail text_cmp e.0 (keys_of es) s))
  | inl b ↦ elim (true_or_false (is_lt (text_cmp l e.0))) [
    | inr h ↦ rw (b, h) (rises_behind p l es (sorted_tail text_cmp e.0 (keys_of es) s))
    | inl h ↦ rw (b, h) (
      h,
      rises_above p e.0 (λ x. is_lt (text_cmp l (text_in x))) es (sorted_head text_cmp e.0 (keys_of es) s)
          (sorted_tail text_cmp e.0 (keys_of es) s),
    )
  ]
]

-- ---- folding does not change entries that rise

apart_again : (l : List ℕ) (x : PageEntry) → is_lt (text_cmp l (text_in x)) ≡ true → is_again (Some l) x ≡ false
apart_again l x h = contrary _ (λ e. sym (ap is_lt (tied (text_cmp l (text_in x)) e)) ∙ h)

folded_same : (l : List ℕ) (xs : List PageEntry) → RisesFrom l (texts xs) → folded_from (Some l) xs ≡ xs
folded_same l [] h = refl
folded_same l (x ∷ xs) h = rw (apart_again l x h.0, folded_same (text_in x) xs h.1) refl

folded_all : (l : List ℕ) (xs : List PageEntry) → RisesFrom l (texts xs) → folded_from None xs ≡ xs
folded_all l [] h = refl
folded_all l (x ∷ xs) h = ap (λ ys. x ∷ ys) (folded_same (text_in x) xs h.1)

flat_is : (p l : List ℕ) (m : Objects) → listed p false l m ≡ behind_of l (flat p (fin.entries m))
flat_is p l m = folded_all l (behind_of l (flat p (fin.entries m))) (rises_behind p l (fin.entries m) (map_sorted text_cmp m))

pub listed_rises : (p l : List ℕ) (m : Objects) → RisesFrom l (texts (listed p false l m))
listed_rises p l m = subst (λ xs. RisesFrom l (texts xs)) (sym (flat_is p l m)) (rises_behind p l (fin.entries m) (map_sorted text_cmp m))

taken_rises : (n : ℕ) (xs : List PageEntry) (l : List ℕ) → RisesFrom l (texts xs) → RisesFrom l (texts (take n xs))
taken_rises (suc n) (x ∷ xs) l h = (h.0, taken_rises n xs (text_in x) h.1)
taken_rises _ _ l h = tt

pub page_rises : (n : ℕ) (p l : List ℕ) (m : Objects) → RisesFrom l (keys_listed n p l m)
page_rises n p l m = taken_rises n (listed p false l m) l (listed_rises p l m)

-- ---- keys that rise, one list after another

pub behind : (l k : List ℕ) (ks : List (List ℕ)) → RisesFrom l ks → IsIn k ks → lt text_cmp l k ≡ true
behind l k [] h i = absurd i
behind l k (q ∷ ks) h (inl e) = ap (lt text_cmp l) e ∙ h.0
behind l k (q ∷ ks) h (inr i) = lt_trans text_total l q k h.0 (behind q k ks h.1 i)

pub not_again : (k : List ℕ) (ks : List (List ℕ)) → RisesFrom k ks → IsIn k ks → ⊥
not_again k ks h i = false_true (irrefl text_total k) (behind k k ks h i)

pub joins : (l : List ℕ) (ks more : List (List ℕ)) → RisesFrom l ks → RisesFrom (last_from l ks) more → RisesFrom l (ks ++ more)
joins l [] more h g = g
joins l (k ∷ ks) more h g = (h.0, joins k ks more h.1 g)

pub last_append : (l : List ℕ) (ks more : List (List ℕ)) → last_from l (ks ++ more) ≡ last_from (last_from l ks) more
last_append l [] more = refl
last_append l (k ∷ ks) more = last_append k ks more

-- ---- all existing keys are listed

pub found_in : (es : List Entry) (k : List ℕ) (x : Object) → find text_cmp k es ≡ Some x → IsIn (k, x) es
found_in [] k x e = absurd (none_some refl e)
found_in (p ∷ es) k x e = elim (true_or_false (eq_by_cmp text_cmp k p.0)) [
  | inr h ↦ inr (found_in es k x (rw h at e))
  | inl h ↦ inl (ap (λ q. (q, x)) (text_exact k p.0 (tied _ h)) ∙ ap (λ v. (p.0, v)) (sym (some_is (rw h at e))))
]

above_all : (k : List ℕ) (es : List Entry) (e : Entry) → AllByRecursion (λ q. text_cmp k q ≡ Less) (keys_of es) → IsIn e es
    → text_cmp k e.0 ≡ Less
above_all k [] e a i = absurd i
above_all k (p ∷ es) e a (inl is) = ap (λ (x : Entry). text_cmp k x.0) is ∙ a.0
above_all k (p ∷ es) e a (inr i) = above_all k es e a.1 i

-- A member of entries that rise is found at its key.
pub found_at : (es : List Entry) (e : Entry) → IsStrictlySortedBy text_cmp (keys_of es) → IsIn e es → find text_cmp e.0 es ≡ Some e.1
found_at [] e s i = absurd i
found_at (p ∷ es) e s (inl is) =
    let tie : eq_by_cmp text_cmp e.0 p.0 ≡ true = sym (text_ties e.0 p.0) ∙ text_true e.0 p.0 (ap (λ (x : Entry). x.0) is) in
    rw tie (ap (λ (x : Entry). Some x.1) (sym is))
found_at (p ∷ es) e s (inr i) =
    let above : is_lt (text_cmp p.0 e.0) ≡ true = ap is_lt (above_all p.0 es e (sorted_head text_cmp p.0 (keys_of es) s) i) in
    let tie : eq_by_cmp text_cmp e.0 p.0 ≡ false = sym (text_ties e.0 p.0) ∙ text_false e.0 p.0
    (λ h. false_true (irrefl text_total p.0) (ap (lt text_cmp p.0) (sym h) ∙ above)) in
    rw tie (found_at es e (sorted_tail text_cmp p.0 (keys_of es) s) i)

pub listed_all : (p l : List ℕ) (m : Objects) (k : List ℕ) (x : Object) → fin.get m k ≡ Some x → begins p k ≡ true
    → is_lt (text_cmp l k) ≡ true → IsIn k (texts (listed p false l m))
listed_all p l m k x e h g =
    let stands : IsIn (k, x) (fin.entries m) = found_in (fin.entries m) k x (sym (fin.get-entries m k) ∙ e) in
    let a = filter_in (λ (y : Entry). begins p y.0) (k, x) (fin.entries m) stands h in
    let b = map_in (entry_of p false) (k, x) (filter (λ (y : Entry). begins p y.0) (fin.entries m)) a in
    let d = filter_in (λ y. is_lt (text_cmp l (text_in y))) (entry_of p false (k, x)) (flat p (fin.entries m)) b g in
    subst (λ xs. IsIn k (texts xs)) (sym (flat_is p l m)) (map_in text_in (entry_of p false (k, x)) (behind_of l (flat p (fin.entries m)))
    d)

taken_in : (n : ℕ) (xs : List PageEntry) (k : List ℕ) → IsIn k (texts (take n xs)) → IsIn k (texts xs)
taken_in (suc n) (x ∷ xs) k (inl e) = inl e
taken_in (suc n) (x ∷ xs) k (inr i) = inr (taken_in n xs k i)
taken_in _ _ k i = absurd i

pub page_begins : (n : ℕ) (p l k : List ℕ) (m : Objects) → IsIn k (keys_listed n p l m) → (begins p k ≡ true)
    × ((x : Object) × (fin.get m k ≡ Some x))
page_begins n p l k m i =
    let a = in_map text_in k (listed p false l m) (taken_in n (listed p false l m) k i) in
    let b = subst (λ xs. IsIn a.0 xs) (flat_is p l m) a.1 in
    let d = (in_filter (λ y. is_lt (text_cmp l (text_in y))) a.0 (flat p (fin.entries m)) b).0 in
    let e = in_map (entry_of p false) a.0 (filter (λ (y : Entry). begins p y.0) (fin.entries m)) d in
    let g = in_filter (λ (y : Entry). begins p y.0) e.0 (fin.entries m) e.1 in
    let key : k ≡ e.0.0 = a.2 ∙ ap text_in e.2 in
    let at : fin.get m e.0.0 ≡ Some e.0.1 = fin.get-entries m e.0.0 ∙ found_at (fin.entries m) e.0 (map_sorted text_cmp m) g.0 in
    (ap (begins p) key ∙ g.1, (e.0.1, ap (fin.get m) key ∙ at))

-- A key of entries that rise is among the first n, or greater than the last of these.
take_or : (n : ℕ) (xs : List PageEntry) (l k : List ℕ) → RisesFrom l (texts xs) → IsIn k (texts xs) → IsIn k (texts (take n xs))
    ⊎ (lt text_cmp (last_from l (texts (take n xs))) k ≡ true)
take_or zero xs l k h i = inr (behind l k (texts xs) h i)
take_or (suc n) [] l k h i = absurd i
take_or (suc n) (x ∷ xs) l k h (inl e) = inl (inl e)
take_or (suc n) (x ∷ xs) l k h (inr i) = elim (take_or n xs (text_in x) k h.1 i) [ inl g ↦ inl (inr g) | inr g ↦ inr g ]

pub page_covers : (n : ℕ) (p l k : List ℕ) (m : Objects) (x : Object) → fin.get m k ≡ Some x → begins p k ≡ true
    → is_lt (text_cmp l k) ≡ true
    → IsIn k (keys_listed n p l m) ⊎ (is_lt (text_cmp (last_from l (keys_listed n p l m)) k) ≡ true)
page_covers n p l k m x e h g = take_or n (listed p false l m) l k (listed_rises p l m) (listed_all p l m k x e h g)

take_whole : (n : ℕ) (xs : List PageEntry) → length xs ≤ n → take n xs ≡ xs
take_whole zero [] h = refl
take_whole zero (x ∷ xs) h = absurd (omega arith)
take_whole (suc n) [] h = refl
take_whole (suc n) (x ∷ xs) h = ap (λ l. x ∷ l) (take_whole n xs (omega arith))

pub page_all : (n : ℕ) (p l k : List ℕ) (m : Objects) (x : Object) → nat_lt n (length (listed p false l m)) ≡ false → fin.get m k ≡ Some x
    → begins p k ≡ true → is_lt (text_cmp l k) ≡ true → IsIn k (keys_listed n p l m)
page_all n p l k m x few e h g = subst (λ xs. IsIn k (texts xs)) (sym
    (take_whole n (listed p false l m) (ltb-false n (length (listed p false l m)) few))) (listed_all p l m k x e h g)
