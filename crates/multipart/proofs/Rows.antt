-- A vector of entries whose numbers rise, seen as a finite map.
use Rattle.text_and_lists.proofs.Naturals.{greater_is, less_is}
use Rattle.text_and_lists.proofs.Tree.{entries_made, map_sorted}
use Rattle.multipart.specs.inner.Numbers.{IsPlace, is_number_at}
use Rattle.std.proofs.Common.{List, None, Some, ap, arith, cond, false, get_or, inl, inr, length, nat_eq, refl, set, subst, suc, sym, true}
use Rattle.std.proofs.Common.{zero, ℕ, [], ◌+◌, ◌<◌, ◌∙◌, ◌∷◌, ◌≡◌, ◌≤◌}
use Rattle.std.proofs.lemmas.Bool.{cases_lt}
use Rattle.std.proofs.lemmas.Bool.Decides.{nat_tests}
use Rattle.std.proofs.lemmas.Cmp.{ranked}
use Rattle.std.proofs.lemmas.Map.Entries.{length-keys_of}
use Rattle.std.proofs.lemmas.Map.Keys.{Less-from_sorted, sorted_head, sorted_tail}
use Rattle.std.specs.BTreeMap.Range.{entries_between, range_contains}
use Rattle.std.specs.Cmp.{nat_cmp_total}
use Rattle.std.specs.FinMap.{entries, entries-insert, from_entries, insert, same_entries_map}
use Rattle.std.specs.FinMap.Entries.{by_order, find, put}
use Rattle.std.specs.List.{AllWithin, insert as inserted, slice_get}
use Rattle.std.specs.List.Sorted.{IsBinarySearchResult, IsNonDecreasingBy, IsSearchInRange, IsStrictlySortedBy}
use Rattle.std.specs.Map.{keys_of}
use Rattle.std.specs.Ordering.{is_eq, nat_cmp, ordering_index}
use Rattle.std.specs.Prelude.{Err, IfErr, IfOk, Ok, Result}
use Rattle.std.specs.declared.cmp.Ordering.TheVariants.{Equal, Greater, Less}
use Rattle.std.specs.declared.ops.Bound.TheVariants.{Excluded, Unbounded}

cmp_less : (a b : ℕ) → a < b → nat_cmp a b ≡ Less
cmp_less a b h = grind (arith, nat_tests)

cmp_greater : (a b : ℕ) → b < a → nat_cmp a b ≡ Greater
cmp_greater a b h = grind (arith, nat_tests)

cmp_same : (a b : ℕ) → nat_eq b a ≡ true → nat_cmp a b ≡ Equal
cmp_same a b h = grind (arith, nat_tests)

apart : (a b : ℕ) → nat_eq b a ≡ false → a ≤ b → a < b
apart a b h le = grind (arith, nat_tests)

pub none_sorted : {X : Type 0} (es : List (ℕ × X)) → es ≡ [] → IsStrictlySortedBy nat_cmp (keys_of es)
unfolding IsStrictlySortedBy
none_sorted es e = subst (λ (l : List (ℕ × _)). IsStrictlySortedBy nat_cmp (keys_of l)) (sym e) tt

module _ {X : Type 0} where
  key_of : (es : List (ℕ × X)) (i : ℕ) (d : ℕ × X) → i < length es → get_or (keys_of es) i d.0 ≡ (get_or es i d).0
  key_of [] i d h = absurd (omega arith)
  key_of (e ∷ es) zero d h = refl
  key_of (e ∷ es) (suc i) d h = key_of es i d (omega arith)

  rises : (es : List (ℕ × X)) (i j : ℕ) (d : ℕ × X) → IsStrictlySortedBy nat_cmp (keys_of es) → i < j → j < length es
      → (get_or es i d).0 < (get_or es j d).0
  rises es i j d s less lt =
      less_is _ _ ((λ t. nat_cmp (sym (key_of es i d (omega arith)) t) (sym (key_of es j d lt) t)) ∙ Less-from_sorted nat_cmp (keys_of es) i
      j d.0 s less (omega (arith, lt, length-keys_of es)))

  -- The order that a binary search needs.
  indexed : (n : ℕ) (es : List (ℕ × X)) → IsStrictlySortedBy nat_cmp (keys_of es)
      → IsNonDecreasingBy (λ e. ordering_index (nat_cmp e.0 n)) es
  indexed n es s i j d le lt = elim (cases_lt i j) [
    | inl less ↦ up _ _ (rises es i j d s less lt)
    | inr same ↦ let is : i ≡ j = omega arith in even _ _ (ap (λ k. ordering_index (nat_cmp (get_or es k d).0 n)) is)
  ]
    where
      up : (a b : ℕ) → a < b → ordering_index (nat_cmp a n) ≤ ordering_index (nat_cmp b n)
      up a b h = grind (arith, nat_tests)

      even : (a b : ℕ) → a ≡ b → a ≤ b
      even a b e = omega arith

  -- If the search finds the number, this is its place.
  hit : (n : ℕ) (es : List (ℕ × X)) (i : ℕ) (d : ℕ × X) → IsStrictlySortedBy nat_cmp (keys_of es) → i < length es → (get_or es i d).0 ≡ n
      → IsPlace n es i × (is_number_at es i n ≡ true)
  hit n [] i d s h e = absurd (omega arith)
  hit n (x ∷ es) zero d s h e = (omega arith, same x.0 n e)
    where
      same : (a b : ℕ) → a ≡ b → nat_eq a b ≡ true
      same a b e = grind (arith, nat_tests)
  hit n (x ∷ es) (suc i) d s h e =
      let more = hit n es i d (sorted_tail nat_cmp x.0 (keys_of es) s) (omega arith) e in
      let up : x.0 < (get_or es i d).0 = rises (x ∷ es) 0 (suc i) d s (omega arith) h in
      ((omega (arith, up, e), more.0), more.1)

  -- If the search does not find the number, it would go to this place.
  miss : (n : ℕ) (es : List (ℕ × X)) (i : ℕ) → i ≤ length es → AllWithin (λ e. nat_cmp e.0 n ≡ Less) es 0 i
      → AllWithin (λ e. nat_cmp e.0 n ≡ Greater) es i (length es) → IsPlace n es i × (is_number_at es i n ≡ false)
  miss n [] zero le a b = (tt, refl)
  miss n [] (suc i) le a b = absurd (omega arith)
  miss n (e ∷ es) zero le a b = let up : n < e.0 = greater_is e.0 n (b 0 e (omega arith) (omega arith)) in
      (omega (arith, up), other e.0 n up)
    where
      other : (a b : ℕ) → b < a → nat_eq a b ≡ false
      other a b h = grind (arith, nat_tests)
  miss n (e ∷ es) (suc i) le a b =
      let more = miss n es i (omega arith) (λ k d l h. a (suc k) d (omega arith) (omega arith))
      (λ k d l h. b (suc k) d (omega arith) (omega arith)) in
      ((less_is e.0 n (a 0 e (omega arith) (omega arith)), more.0), more.1)

  -- The result of a search.
  pub record Searched (n : ℕ) (es : List (ℕ × X)) (r : Result ℕ ℕ) : Type 0 where
    pub found : IfOk r (λ i. IsPlace n es i × (is_number_at es i n ≡ true))
    pub absent : IfErr r (λ i. IsPlace n es i × (is_number_at es i n ≡ false))
    pub within : IfOk r (λ i. i < length es)
    pub place : IfErr r (λ i. i ≤ length es)

  pub searched : (n : ℕ) (es : List (ℕ × X)) (d : ℕ × X) (r : Result ℕ ℕ) → IsStrictlySortedBy nat_cmp (keys_of es)
      → IsSearchInRange r (length es) → IsBinarySearchResult (λ e. nat_cmp e.0 n) es r → Searched n es r
  searched n es d (Ok i) s range equal = record {
    found = hit n es i d s range (ranked _ n _ (sym (equal d)));
    absent = tt;
    within = range;
    place = tt;
  }
  searched n es d (Err i) s range apart = let p = apart (indexed n es s) in record
      { found = tt; absent = miss n es i range p.0 p.1; within = tt; place = range }

  -- Setting the entry at its place puts it into the map.
  pub set_is : (n : ℕ) (v : X) (es : List (ℕ × X)) (i : ℕ) → IsPlace n es i → is_number_at es i n ≡ true
      → set es i (n, v) ≡ put nat_cmp n v es
  set_is n v [] zero p h = absurd (cc)
  set_is n v [] (suc i) p h = absurd p
  set_is n v (e ∷ es) zero p h = ap (λ k. (k, v) ∷ es) (same_number e.0 n h) ∙ sym
      (ap (λ r. by_order r ((n, v) ∷ e ∷ es) ((e.0, v) ∷ es) (e ∷ put nat_cmp n v es)) (cmp_same n e.0 h))
    where
      same_number : (a b : ℕ) → nat_eq a b ≡ true → b ≡ a
      same_number a b h = grind (arith, nat_tests)
  set_is n v (e ∷ es) (suc i) p h = ap (λ l. e ∷ l) (set_is n v es i p.1 h) ∙ sym
      (ap (λ r. by_order r ((n, v) ∷ e ∷ es) ((e.0, v) ∷ es) (e ∷ put nat_cmp n v es)) (cmp_greater n e.0 p.0))

  -- Inserting an entry at its place puts it into the map.
  pub insert_is : (n : ℕ) (v : X) (es : List (ℕ × X)) (i : ℕ) → IsPlace n es i → is_number_at es i n ≡ false
      → inserted es i (n, v) ≡ put nat_cmp n v es
  insert_is n v [] zero p h = refl
  insert_is n v [] (suc i) p h = absurd p
  insert_is n v (e ∷ es) zero p h = sym (ap (λ r. by_order r ((n, v) ∷ e ∷ es) ((e.0, v) ∷ es) (e ∷ put nat_cmp n v es))
      (cmp_less n e.0 (apart n e.0 h p)))
  insert_is n v (e ∷ es) (suc i) p h = ap (λ l. e ∷ l) (insert_is n v es i p.1 h) ∙ sym
      (ap (λ r. by_order r ((n, v) ∷ e ∷ es) ((e.0, v) ∷ es) (e ∷ put nat_cmp n v es)) (cmp_greater n e.0 p.0))

  module _ (es fs : List (ℕ × X)) (n : ℕ) (v : X) (s : IsStrictlySortedBy nat_cmp (keys_of es)) (is : fs ≡ put nat_cmp n v es) where
    made : entries (insert (from_entries {R = nat_cmp} es) n v) ≡ fs
    made = entries-insert nat_cmp_total (from_entries es) n v ∙ ap (put nat_cmp n v) (entries_made nat_cmp_total es s) ∙ sym is

    pub put_sorted : IsStrictlySortedBy nat_cmp (keys_of fs)
    put_sorted = subst (λ (l : List (ℕ × X)). IsStrictlySortedBy nat_cmp (keys_of l)) made
        (map_sorted nat_cmp (insert (from_entries {R = nat_cmp} es) n v))

    pub put_made : from_entries {R = nat_cmp} fs ≡ insert (from_entries es) n v
    put_made = same_entries_map _ _ (entries_made nat_cmp_total fs put_sorted ∙ sym made)

  -- The entry at the number's place is the one that the map has.
  pub found_at : (n : ℕ) (es : List (ℕ × X)) (i : ℕ) (e : ℕ × X) → IsPlace n es i → is_number_at es i n ≡ true → e ≡ get_or es i e
      → find nat_cmp n es ≡ Some e.1
  found_at n [] zero e p h is = absurd (cc)
  found_at n [] (suc i) e p h is = absurd p
  found_at n (x ∷ es) zero e p h is = ap (λ r. cond (is_eq r) (Some x.1) (find nat_cmp n es)) (cmp_same n x.0 h) ∙ ap
      (λ (y : ℕ × X). Some y.1) (sym is)
  found_at n (x ∷ es) (suc i) e p h is = ap (λ r. cond (is_eq r) (Some x.1) (find nat_cmp n es)) (cmp_greater n x.0 p.0) ∙ found_at n es i e
      p.1 h is

  none_above : (n : ℕ) (es : List (ℕ × X)) (x : ℕ) → n ≤ x → IsStrictlySortedBy nat_cmp (x ∷ keys_of es) → find nat_cmp n es ≡ None
  none_above n [] x le s = refl
  none_above n (e ∷ es) x le s =
      let up : x < e.0 = less_is x e.0 (sorted_head nat_cmp x (e.0 ∷ keys_of es) s).0 in
      ap (λ r. cond (is_eq r) (Some e.1) (find nat_cmp n es)) (cmp_less n e.0 (omega (arith, up))) ∙ none_above n es e.0 (omega (arith, up))
      (sorted_tail nat_cmp x (e.0 ∷ keys_of es) s)

  pub none_at : (n : ℕ) (es : List (ℕ × X)) (i : ℕ) → IsStrictlySortedBy nat_cmp (keys_of es) → IsPlace n es i → is_number_at es i n ≡ false
      → find nat_cmp n es ≡ None
  none_at n [] i s p h = refl
  none_at n (e ∷ es) zero s p h = ap (λ r. cond (is_eq r) (Some e.1) (find nat_cmp n es)) (cmp_less n e.0 (apart n e.0 h p)) ∙ none_above n
      es e.0 p s
  none_at n (e ∷ es) (suc i) s p h = ap (λ r. cond (is_eq r) (Some e.1) (find nat_cmp n es)) (cmp_greater n e.0 p.0) ∙ none_at n es i
      (sorted_tail nat_cmp e.0 (keys_of es) s) p.1 h

  -- The place after a number that is there, and after one that is not.
  behind : (n : ℕ) (es : List (ℕ × X)) (i : ℕ) → IsStrictlySortedBy nat_cmp (keys_of es) → IsPlace n es i → is_number_at es i n ≡ true
      → IsPlace (n + 1) es (suc i)
  behind n [] i s p h = absurd (cc)
  behind n (e ∷ es) zero s p h = (here e.0 h, first es s)
    where
      here : (a : ℕ) → nat_eq a n ≡ true → a < n + 1
      here a h = grind (arith, nat_tests)

      same : (a : ℕ) → nat_eq a n ≡ true → a ≡ n
      same a h = grind (arith, nat_tests)

      first : (fs : List (ℕ × X)) → IsStrictlySortedBy nat_cmp (e.0 ∷ keys_of fs) → IsPlace (n + 1) fs 0
      first [] s = tt
      first (f ∷ fs) s = let up : e.0 < f.0 = less_is e.0 f.0 (sorted_head nat_cmp e.0 (f.0 ∷ keys_of fs) s).0 in omega
          (arith, up, same e.0 h)
  behind n (e ∷ es) (suc i) s p h = (omega (arith, p.0), behind n es i (sorted_tail nat_cmp e.0 (keys_of es) s) p.1 h)

  pub behind_it : (n : ℕ) (es : List (ℕ × X)) (i : ℕ) → IsStrictlySortedBy nat_cmp (keys_of es) → IsPlace n es i
      → is_number_at es i n ≡ true → IsPlace (n + 1) es (i + 1)
  behind_it n es i s p h = let next : suc i ≡ i + 1 = omega arith in subst (IsPlace (n + 1) es) next (behind n es i s p h)

  pub past : (n : ℕ) (es : List (ℕ × X)) (i : ℕ) → IsPlace n es i → is_number_at es i n ≡ false → IsPlace (n + 1) es i
  past n [] zero p h = tt
  past n [] (suc i) p h = absurd p
  past n (e ∷ es) zero p h = let up : n < e.0 = apart n e.0 h p in omega (arith, up)
  past n (e ∷ es) (suc i) p h = (omega (arith, p.0), past n es i p.1 h)

  -- The first entry with a greater number.
  pub next_at : (n : ℕ) (es : List (ℕ × X)) (i : ℕ) → IsPlace (n + 1) es i
      → slice_get es i ≡ slice_get (entries_between nat_cmp (Excluded n) Unbounded es) 0
  next_at n [] zero p = refl
  next_at n [] (suc i) p = absurd p
  next_at n (e ∷ es) zero p = sym (ap (λ b. slice_get (cond b (e ∷ entries_between nat_cmp (Excluded n) Unbounded es)
      (entries_between nat_cmp (Excluded n) Unbounded es)) 0) (inside n e.0 p))
    where
      inside : (a b : ℕ) → a + 1 ≤ b → range_contains nat_cmp (Excluded a) Unbounded b ≡ true
      inside a b h = grind (arith, nat_tests)
  next_at n (e ∷ es) (suc i) p = next_at n es i p.1 ∙ sym (ap
      (λ b. slice_get (cond b (e ∷ entries_between nat_cmp (Excluded n) Unbounded es) (entries_between nat_cmp (Excluded n) Unbounded es))
      0) (outside n e.0 p.0))
    where
      outside : (a b : ℕ) → b < a + 1 → range_contains nat_cmp (Excluded a) Unbounded b ≡ false
      outside a b h = grind (arith, nat_tests)
