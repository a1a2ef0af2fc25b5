-- How many sends with a planned fate have numbers above another.
use Rattle.text_and_lists.proofs.EntriesFrom.{AreAbove, entries_from, entry_from, from_on, no_entry_from}
use Rattle.text_and_lists.proofs.Naturals.{below_so, less_is, not_below}
use Rattle.text_and_lists.proofs.Tree.{map_sorted}
use Rattle.s3_types.specs.Fates.{FateMap, IsFirstFrom}
use Rattle.s3_types.specs.declared.fates.Fate.{Fate}
use Rattle.std.proofs.Common.{Bool, List, None, Some, ap, arith, cond, inl, inr, length, nat_lt, refl, ℕ, [], ◌+◌, ◌<◌, ◌∷◌, ◌≡◌, ◌≤◌, ◌⊎◌}
use Rattle.std.proofs.lemmas.Bool.{cases_lt}
use Rattle.std.proofs.lemmas.List.Sums.{sum_by-cons}
use Rattle.std.proofs.lemmas.Map.Keys.{sorted_head, sorted_tail}
use Rattle.std.specs.List.{count_by}
use Rattle.std.specs.List.Sorted.{IsStrictlySortedBy}
use Rattle.std.specs.Map.{keys_of}
use Rattle.std.specs.Ordering.{nat_cmp}
use Rattle.trace_text.specs.Trace.{unsent}
use Rattle.std.specs.FinMap as fin

-- The send has a number above n.
abbrev above : ℕ → ℕ × Fate → Bool
above n e = nat_lt n e.0

-- All items above a number are among those from that number on.
kept : (n k : ℕ) (es : List (ℕ × Fate)) → n ≤ k → AreAbove k es → from_on n es ≡ es
kept n k [] le h = refl
kept n k (e ∷ es) le h =
    let lt = less_is k e.0 h.0 in
    ap (λ b. cond b (from_on n es) (e ∷ es)) (not_below e.0 n (omega (arith, lt)))

-- The items from the next number on are those with numbers above.
counted : (n : ℕ) (es : List (ℕ × Fate)) → IsStrictlySortedBy nat_cmp (keys_of es) → count_by (above n) es ≡ length (from_on (n + 1) es)
counted n [] s = refl
counted n (e ∷ es) s = by (cases_lt n e.0) (counted n es (sorted_tail nat_cmp e.0 (keys_of es) s))
  where
    one : count_by (above n) (e ∷ es) ≡ cond (nat_lt n e.0) 1 0 + count_by (above n) es
    one = sum_by-cons (λ x. cond (above n x) 1 0) e es

    by : (n < e.0) ⊎ (e.0 ≤ n) → count_by (above n) es ≡ length (from_on (n + 1) es)
        → count_by (above n) (e ∷ es) ≡ length (from_on (n + 1) (e ∷ es))
    by (inl lt) behind =
        let here : ◌≡◌ {A = ℕ} (cond (nat_lt n e.0) 1 0) 1 = ap (λ b. cond b 1 0) (below_so n e.0 lt) in
        let above_e = sorted_head nat_cmp e.0 (keys_of es) s in
        let all : length (from_on (n + 1) es) ≡ length es = ap length (kept (n + 1) e.0 es (omega arith) above_e) in
        let these = ap (λ b. length (cond b (from_on (n + 1) es) (e ∷ es))) (not_below e.0 (n + 1) (omega arith)) in
        omega (arith, one, behind, here, all, these)
    by (inr le) behind =
        let here : ◌≡◌ {A = ℕ} (cond (nat_lt n e.0) 1 0) 0 = ap (λ b. cond b 1 0) (not_below n e.0 le) in
        let these = ap (λ b. length (cond b (from_on (n + 1) es) (e ∷ es))) (below_so e.0 (n + 1) (omega arith)) in
        omega (arith, one, behind, here, these)

-- All items are left before the first is counted.
pub all_unsent : (m : FateMap) (sent : ℕ) → unsent m sent ≡ length (entries_from (sent + 1) m)
all_unsent m sent = counted sent (fin.entries m) (map_sorted nat_cmp m)

-- One more item is counted.
pub one_unsent : (m : FateMap) (n k : ℕ) (fate : Fate) → IsFirstFrom m n (Some (k, fate))
    → length (entries_from n m) ≡ 1 + length (entries_from (k + 1) m)
one_unsent m n k fate h =
    let e = ap length (entry_from m n k fate h.0 h.1 h.2) in
    omega (arith, e)

-- No item is left.
pub none_unsent : (m : FateMap) (n : ℕ) → IsFirstFrom m n None → length (entries_from n m) ≡ 0
none_unsent m n h = ap length (no_entry_from m n h)
