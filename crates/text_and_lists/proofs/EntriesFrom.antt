-- The entries of a finite map over numbers, from a number on, which are found one after another.
use Rattle.text_and_lists.proofs.Naturals.{below_so, less_is, not_below}
use Rattle.text_and_lists.proofs.Tree.{map_sorted}
use Rattle.std.proofs.Common.{List, None, Some, ap, arith, cond, false, inl, inr, is_some, nat_lt, refl, sym, true, true≢false, unwrap_or}
use Rattle.std.proofs.Common.{ℕ, [], ◌+◌, ◌<◌, ◌∙◌, ◌∷◌, ◌≡◌, ◌≤◌}
use Rattle.std.proofs.lemmas.Bool.{cases_lt, cases_order}
use Rattle.std.proofs.lemmas.Bool.Decides.{nat_tests}
use Rattle.std.proofs.lemmas.Map.Keys.{sorted_head, sorted_tail}
use Rattle.std.specs.FinMap.{FinMap, entries, get, get-entries}
use Rattle.std.specs.FinMap.Entries.{find}
use Rattle.std.specs.List.{AllByRecursion}
use Rattle.std.specs.List.Sorted.{IsStrictlySortedBy}
use Rattle.std.specs.Map.{keys_of}
use Rattle.std.specs.Ordering.{eq_by_cmp, nat_cmp}
use Rattle.std.specs.declared.cmp.Ordering.TheVariants.{Less}

pub same_key : (k : ℕ) → eq_by_cmp nat_cmp k k ≡ true
same_key k = grind (arith, nat_tests)

pub other_key : (j k : ℕ) → (j ≡ k → ⊥) → eq_by_cmp nat_cmp j k ≡ false
other_key j k h = grind (arith, nat_tests)

module _ {X : Type 0} where
  -- The entries from a number on.
  abbrev pub from_on : ℕ → List (ℕ × X) → List (ℕ × X)
  from_on n [] = []
  from_on n (e ∷ es) = cond (nat_lt e.0 n) (from_on n es) (e ∷ es)

  -- All keys are above k.
  abbrev pub AreAbove : ℕ → List (ℕ × X) → Type 0
  AreAbove k es = AllByRecursion (λ y. nat_cmp k y ≡ Less) (keys_of es)

  pub find_head : (e : ℕ × X) (es : List (ℕ × X)) → find nat_cmp e.0 (e ∷ es) ≡ Some e.1
  find_head e es = ap (λ b. cond b (Some e.1) (find nat_cmp e.0 es)) (same_key e.0)

  pub find_other : (j : ℕ) (e : ℕ × X) (es : List (ℕ × X)) → (j ≡ e.0 → ⊥) → find nat_cmp j (e ∷ es) ≡ find nat_cmp j es
  find_other j e es h = ap (λ b. cond b (Some e.1) (find nat_cmp j es)) (other_key j e.0 h)

  pub not_found : (k j : ℕ) (es : List (ℕ × X)) → j ≤ k → AreAbove k es → find nat_cmp j es ≡ None
  not_found k j [] le h = refl
  not_found k j (e ∷ es) le h =
      let lt = less_is k e.0 h.0 in
      find_other j e es (λ q. omega (arith, le, lt, q)) ∙ not_found k j es le h.1

  skips : (n : ℕ) (e : ℕ × X) (es : List (ℕ × X)) → e.0 < n → from_on n (e ∷ es) ≡ from_on n es
  skips n e es lt = ap (λ b. cond b (from_on n es) (e ∷ es)) (below_so e.0 n lt)

  keeps : (n : ℕ) (e : ℕ × X) (es : List (ℕ × X)) → n ≤ e.0 → from_on n (e ∷ es) ≡ e ∷ es
  keeps n e es le = ap (λ b. cond b (from_on n es) (e ∷ es)) (not_below e.0 n le)

  keeps_all : (k : ℕ) (es : List (ℕ × X)) → AreAbove k es → from_on (k + 1) es ≡ es
  keeps_all k [] h = refl
  keeps_all k (e ∷ es) h = let lt = less_is k e.0 h.0 in keeps (k + 1) e es (omega (arith, lt))

  no_value : (x : X) → Some x ≡ None → ⊥
  no_value x e = true≢false (ap is_some e)

  same_value : (x y : X) → Some x ≡ Some y → x ≡ y
  same_value x y e = ap (λ o. unwrap_or o x) e

  -- If none is found from n on, none is left.
  none_from : (n : ℕ) (es : List (ℕ × X)) → IsStrictlySortedBy nat_cmp (keys_of es) → ((j : ℕ) → n ≤ j → find nat_cmp j es ≡ None)
      → from_on n es ≡ []
  none_from n [] s h = refl
  none_from n (e ∷ es) s h = elim (cases_lt e.0 n) [
    | inl lt ↦ skips n e es lt ∙ none_from n es (sorted_tail nat_cmp e.0 (keys_of es) s)
        (λ j le. sym (find_other j e es (λ q. omega (arith, le, lt, q))) ∙ h j le)
    | inr le ↦ absurd (no_value e.1 (sym (find_head e es) ∙ h e.0 le))
  ]

  -- The first entry that is found from n on comes before those after it.
  some_from : (n k : ℕ) (x : X) (es : List (ℕ × X)) → IsStrictlySortedBy nat_cmp (keys_of es) → n ≤ k → find nat_cmp k es ≡ Some x
      → ((j : ℕ) → n ≤ j → j < k → find nat_cmp j es ≡ None) → from_on n es ≡ (k, x) ∷ from_on (k + 1) es
  some_from n k x [] s le found first = absurd (no_value x (sym found))
  some_from n k x (e ∷ es) s le found first =
      let above = sorted_head nat_cmp e.0 (keys_of es) s in
      elim (cases_lt e.0 n) [
        | inl lt ↦
            skips n e es lt
            ∙ some_from n k x es (sorted_tail nat_cmp e.0 (keys_of es) s) le (sym (find_other k e es (λ q. omega (arith, le, lt, q))) ∙
            found) (λ j low high. sym (find_other j e es (λ q. omega (arith, low, lt, q))) ∙ first j low high)
            ∙ ap (λ l. (k, x) ∷ l) (sym (skips (k + 1) e es (omega (arith, le, lt))))
        | inr here ↦ elim (cases_order k e.0) [
          | inl same ↦
              let value : x ≡ e.1 = same_value x e.1 (sym found ∙ ap (λ q. find nat_cmp q (e ∷ es)) same ∙ find_head e es) in
              let left : from_on (k + 1) (e ∷ es) ≡ es = skips (k + 1) e es (omega (arith, same)) ∙ ap (λ q. from_on (q + 1) es) same ∙
              keeps_all e.0 es above in
              keeps n e es here ∙ (λ i. (sym same i, sym value i) ∷ sym left i)
          | inr other ↦ elim other [
            | inl before ↦ absurd (no_value x (sym found ∙ find_other k e es (λ q. omega (arith, before, q)) ∙ not_found e.0 k es
                (omega (arith, before)) above))
            | inr behind ↦ absurd (no_value e.1 (sym (find_head e es) ∙ first e.0 here behind))
          ]
        ]
      ]

  -- If every key is at least n, all entries are left.
  all_from : (n : ℕ) (es : List (ℕ × X)) → ((k : ℕ) (x : X) → find nat_cmp k es ≡ Some x → n ≤ k) → from_on n es ≡ es
  all_from n [] h = refl
  all_from n (e ∷ es) h = keeps n e es (h e.0 e.1 (find_head e es))

  -- The entries of a map from n on.
  abbrev pub entries_from : ℕ → FinMap nat_cmp X → List (ℕ × X)
  entries_from n m = from_on n (entries m)

  pub no_entry_from : (m : FinMap nat_cmp X) (n : ℕ) → ((j : ℕ) → n ≤ j → get m j ≡ None) → entries_from n m ≡ []
  no_entry_from m n h = none_from n (entries m) (map_sorted nat_cmp m) (λ j le. sym (get-entries m j) ∙ h j le)

  pub entry_from : (m : FinMap nat_cmp X) (n k : ℕ) (x : X) → n ≤ k → get m k ≡ Some x → ((j : ℕ) → n ≤ j → j < k → get m j ≡ None)
      → entries_from n m ≡ (k, x) ∷ entries_from (k + 1) m
  entry_from m n k x le found first = some_from n k x (entries m) (map_sorted nat_cmp m) le (sym (get-entries m k) ∙ found)
      (λ j low high. sym (get-entries m j) ∙ first j low high)

  pub all_entries_from : (m : FinMap nat_cmp X) (n : ℕ) → ((k : ℕ) (x : X) → get m k ≡ Some x → n ≤ k) → entries_from n m ≡ entries m
  all_entries_from m n h = all_from n (entries m) (λ k x found. h k x (get-entries m k ∙ found))
