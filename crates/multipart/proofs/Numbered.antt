-- Part numbers are 1 to 10,000, so an upload has at most 10,000 parts.
use Rattle.text_and_lists.proofs.Naturals.{below_is, less_is}
use Rattle.text_and_lists.proofs.Tree.{map_sorted, tied}
use Rattle.multipart.specs.inner.Numbers.{AreNumbered}
use Rattle.s3_types.specs.Multipart.{is_part_number, rises, rises_from}
use Rattle.s3_types.specs.Store.{Parts}
use Rattle.s3_types.specs.declared.request.NamedPart.{NamedPart}
use Rattle.std.proofs.Common.{Bool, List, Option, Some, ap, arith, cond, false, is_some, length, refl, sym, true, ℕ, [], ◌+◌, ◌<◌, ◌∙◌, ◌∷◌}
use Rattle.std.proofs.Common.{◌≡◌, ◌≤◌}
use Rattle.std.proofs.lemmas.Bool.{and_parts, false≢true}
use Rattle.std.proofs.lemmas.Map.Entries.{length-keys_of}
use Rattle.std.proofs.lemmas.Map.Keys.{sorted_head, sorted_tail}
use Rattle.std.proofs.lemmas.Map.Lookups.{exact_unsigned}
use Rattle.std.specs.Cmp.{eq_by_cmp_equiv, nat_cmp_total}
use Rattle.std.specs.FinMap.{entries, from_entries, get, get-entries, get-from_entries, get-insert, insert, len, len-entries}
use Rattle.std.specs.FinMap.Entries.{find}
use Rattle.std.specs.List.{AllByRecursion, list_all}
use Rattle.std.specs.List.Sorted.{IsStrictlySortedBy}
use Rattle.std.specs.Map.{keys_of}
use Rattle.std.specs.Ordering.{eq_by_cmp, nat_cmp}

-- Without parts, all parts are numbered so.
pub numbered_none : (es : List (ℕ × List ℕ)) → es ≡ [] → AreNumbered (from_entries es)
numbered_none es e n h =
    absurd (false≢true (sym (ap is_some (get-from_entries nat_cmp_total es n ∙ ap (find nat_cmp n) e)) ∙ h))

-- After a part with a valid number is put in, all parts are numbered so.
pub numbered_insert : (m : Parts) (k : ℕ) (v : List ℕ) → AreNumbered m → is_part_number k ≡ true → AreNumbered (insert m k v)
numbered_insert m k v old new n h = by (eq_by_cmp nat_cmp n k) refl
  where
    by : (b : Bool) → eq_by_cmp nat_cmp n k ≡ b → is_part_number n ≡ true
    by true e = ap is_part_number (exact_unsigned n k (tied (nat_cmp n k) e)) ∙ new
    by false e = old n (sym (ap is_some (get-insert nat_cmp_total m k v n ∙ ap (λ b. cond b (Some v) (get m n)) e)) ∙ h)

-- A list whose numbers rise from n up to 10,000 has at most 10,000 - n members.
few_from : (n : ℕ) (ns : List NamedPart) → n ≤ 10000 → rises_from n ns ≡ true → list_all (λ p. is_part_number p.number) ns ≡ true
    → length ns + n ≤ 10000
few_from n [] m r s = omega arith
few_from n (x ∷ ns) m r s =
    let p = and_parts _ (rises_from x.number ns) r in
    let q = and_parts (is_part_number x.number) (list_all (λ p. is_part_number p.number) ns) s in
    let most : x.number ≤ 10000 = small x.number q.0 in
    let less_is : n < x.number = below_is n x.number p.0 in
    let rest : length ns + x.number ≤ 10000 = few_from x.number ns most p.1 q.1 in
    omega arith
  where
    small : (k : ℕ) → is_part_number k ≡ true → k ≤ 10000
    small k h = grind arith

-- A list of parts whose numbers rise has at most 10,000 members.
pub few : (ns : List NamedPart) → rises ns ≡ true → list_all (λ p. is_part_number p.number) ns ≡ true → length ns ≤ 10000
few [] r s = omega arith
few (x ∷ ns) r s =
    let q = and_parts (is_part_number x.number) (list_all (λ p. is_part_number p.number) ns) s in
    let least : 1 ≤ x.number = one x.number q.0 in
    let most : x.number ≤ 10000 = small x.number q.0 in
    let rest : length ns + x.number ≤ 10000 = few_from x.number ns most r q.1 in
    omega arith
  where
    one : (k : ℕ) → is_part_number k ≡ true → 1 ≤ k
    one k h = grind arith

    small : (k : ℕ) → is_part_number k ≡ true → k ≤ 10000
    small k h = grind arith

here : (k : ℕ) (v : List ℕ) (o : Option (List ℕ)) → is_some (cond (eq_by_cmp nat_cmp k k) (Some v) o) ≡ true
here k v o = ap (λ b. is_some (cond b (Some v) o)) ((eq_by_cmp_equiv nat_cmp_total).refl k)

later : (b : Bool) (v : List ℕ) (o : Option (List ℕ)) → is_some o ≡ true → is_some (cond b (Some v) o) ≡ true
later b v o h = grind arith

pub numbers : (es : List (ℕ × List ℕ)) → ((n : ℕ) → is_some (find nat_cmp n es) ≡ true → is_part_number n ≡ true)
    → AllByRecursion (λ k. is_part_number k ≡ true) (keys_of es)
numbers [] h = tt
numbers (e ∷ es) h = (
  h e.0 (here e.0 e.1 (find nat_cmp e.0 es)),
  numbers es (λ n g. h n
      (later (eq_by_cmp nat_cmp n e.0) e.1 (find nat_cmp n es) g)),
)

rising : (x : ℕ) (ks : List ℕ) → IsStrictlySortedBy nat_cmp (x ∷ ks) → is_part_number x ≡ true
    → AllByRecursion (λ k. is_part_number k ≡ true) ks → length ks + x ≤ 10000
rising x [] s h a = grind arith
rising x (y ∷ ks) s h a =
    let up : x < y = less_is x y (sorted_head nat_cmp x (y ∷ ks) s).0 in
    let rest : length ks + y ≤ 10000 = rising y ks (sorted_tail nat_cmp x (y ∷ ks) s) a.0 a.1 in
    omega arith

most : (ks : List ℕ) → IsStrictlySortedBy nat_cmp ks → AllByRecursion (λ k. is_part_number k ≡ true) ks → length ks ≤ 10000
most [] s a = omega arith
most (x ∷ ks) s a = let rest : length ks + x ≤ 10000 = rising x ks s a.0 a.1 in let least : 1 ≤ x = (grind arith) in omega arith

-- An upload has at most 10,000 parts.
pub few_parts : (m : Parts) → AreNumbered m → len m ≤ 10000
few_parts m h =
    let e : len m ≡ length (keys_of (entries m)) = len-entries m ∙ sym (length-keys_of (entries m)) in
    let f : length (keys_of (entries m)) ≤ 10000 = most (keys_of (entries m)) (map_sorted nat_cmp m)
    (numbers (entries m) (λ n g. h n (ap is_some (get-entries m n) ∙ g))) in
    omega arith

-- What holds of each key holds of each entry's key.
pub by_keys : {X : Type 0} (P : ℕ → Type 0) (es : List (ℕ × X)) → AllByRecursion P (keys_of es) → AllByRecursion (λ e. P e.0) es
by_keys P [] a = tt
by_keys P (e ∷ es) a = (a.0, by_keys P es a.1)

-- Each part of an upload has a number from 1 to 10,000.
pub all_numbered : (m : Parts) → AreNumbered m → AllByRecursion (λ e. is_part_number e.0 ≡ true) (entries m)
all_numbered m h = by_keys (λ k. is_part_number k ≡ true) (entries m) (numbers (entries m) (λ n g. h n (ap is_some (get-entries m n) ∙ g)))
