-- Entries that rise: a reader takes them and reads them again, and they are the entries of the map that they make.
use Rattle.text_and_lists.proofs.Bytes.{IsBytes, IsReader, IsWide, Takes, Takes-then}
use Rattle.text_and_lists.proofs.Less.{less_of}
use Rattle.text_and_lists.proofs.Reading.{parted, same_ok}
use Rattle.text_and_lists.proofs.Tree.{entries_empty}
use Rattle.std.proofs.Common.{Bool, List, None, Ok, Option, Some, T, ap, append_assoc, arith, false, length, length-append, refl, subst}
use Rattle.std.proofs.Common.{suc, sym, true, zero, ℕ, [], ◌++◌, ◌+◌, ◌<◌, ◌^◌, ◌∙◌, ◌∷◌, ◌≡◌, ◌≤◌}
use Rattle.std.proofs.Math.Facts.{and_yes}
use Rattle.std.proofs.lemmas.List.{append-nil}
use Rattle.std.proofs.lemmas.List.Concat.{flat_map-cons}
use Rattle.std.specs.Cmp.{IsTotalOrder}
use Rattle.std.specs.FinMap.{entries_sorted}
use Rattle.std.specs.FinMap.Entries.{below_all, is_sorted, put}
use Rattle.std.specs.Int.{Width, to_be_bytes}
use Rattle.std.specs.List.{AllByRecursion, flat_map}
use Rattle.std.specs.Ordering.{is_lt, ordering_reverse}
use Rattle.std.specs.declared.cmp.Ordering.{Ordering}
use Rattle.std.specs.declared.cmp.Ordering.TheVariants.{Greater}
use Rattle.store_image.proofs.Maps.{after_both}
use Rattle.store_image.proofs.Steps.{number_again, number_takes}
use Rattle.store_image.specs.Content.{AreEntries, IsEntry}
use Rattle.store_image.specs.Image.{counted}
use Rattle.store_image.specs.Reading.{Read, counted_at, is_after, map_at, number_at, rising_at, with_entries}
use Rattle.std.specs.FinMap as fin

-- ---- maps

true_T : (b : Bool) → T b → b ≡ true
true_T true h = refl
true_T false h = absurd h

module _ {K X : Type 0} (R : K → K → Ordering) where
  -- The keys rise, and are greater than the last one.
  abbrev pub Rises : Option K → List (K × X) → Type 0
  Rises last [] = Unit {0}
  Rises last (e ∷ es) = (is_after R last e.0 ≡ true) × Rises (Some e.0) es

  -- The key is greater than each key of these entries.
  abbrev pub IsAbove : K → List (K × X) → Type 0
  IsAbove k es = AllByRecursion (λ e. R k e.0 ≡ Greater) es

  -- A key that comes after the last one is greater than each key of these entries.
  abbrev pub IsLast : Option K → List (K × X) → Type 0
  IsLast last es = (k : K) → is_after R last k ≡ true → IsAbove k es

  rises_from : (k : K) (es : List (K × X)) → T (below_all R k es) → T (is_sorted R es) → Rises (Some k) es
  rises_from k [] b s = tt
  rises_from k (e ∷ es) b s =
      let first = and_yes (is_lt (R k e.0)) (below_all R k es) b in
      let rest = and_yes (below_all R e.0 es) (is_sorted R es) s in
      (true_T _ first.0, rises_from e.0 es rest.0 rest.1)

  sorted_rises : (es : List (K × X)) → T (is_sorted R es) → Rises None es
  sorted_rises [] s = tt
  sorted_rises (e ∷ es) s = let rest = and_yes (below_all R e.0 es) (is_sorted R es) s in (refl, rises_from e.0 es rest.0 rest.1)

  pub map_rises : (m : fin.FinMap R X) → Rises None (fin.entries m)
  map_rises m = sorted_rises (fin.entries m) (entries_sorted m)

module _ {K X : Type 0} {R : K → K → Ordering} (o : IsTotalOrder R) where
  above_more : (k : K) (es : List (K × X)) (e : K × X) → IsAbove R k es → R k e.0 ≡ Greater → IsAbove R k (es ++ e ∷ [])
  above_more k [] e h g = (g, tt)
  above_more k (x ∷ es) e h g = (h.0, above_more k es e h.1 g)

  still_last : (last : Option K) (es : List (K × X)) (e : K × X) → IsLast R last es → is_after R last e.0 ≡ true
      → IsLast R (Some e.0) (es ++ e ∷ [])
  still_last last es e h after k g =
      above_more k es e (h k (after_both o last e.0 k after g)) (o.antisymm k e.0 ∙ ap ordering_reverse (less_of _ g))

  put_last : (es : List (K × X)) (k : K) (v : X) → IsAbove R k es → put R k v es ≡ es ++ (k, v) ∷ []
  put_last [] k v h = refl
  put_last (e ∷ es) k v h = rw h.0 (ap (λ x. e ∷ x) (put_last es k v h.1))

  entries_more : (last : Option K) (m : fin.FinMap R X) (es : List (K × X)) → IsLast R last (fin.entries m) → Rises R last es
      → fin.entries (with_entries m es) ≡ fin.entries m ++ es
  entries_more last m [] h rises = sym (append-nil (fin.entries m))
  entries_more last m (e ∷ es) h rises =
      let now : fin.entries (fin.insert m e.0 e.1) ≡ fin.entries m ++ e ∷ [] = fin.entries-insert o m e.0 e.1 ∙ put_last (fin.entries m) e.0
      e.1 (h e.0 rises.0) in
      let next : IsLast R (Some e.0) (fin.entries (fin.insert m e.0 e.1)) = subst (IsLast R (Some e.0)) (sym now)
      (still_last last (fin.entries m) e h rises.0) in
      entries_more (Some e.0) (fin.insert m e.0 e.1) es next rises.1 ∙ ap (λ (x : List (K × X)). x ++ es) now ∙ append_assoc (fin.entries m)
      (e ∷ []) es

  -- Entries that rise are the entries of the map that they make.
  pub entries_made : (es : List (K × X)) → Rises R None es → fin.entries (with_entries (fin.empty {X = X} {R = R}) es) ≡ es
  entries_made es rises =
      let none : fin.entries (fin.empty {X = X} {R = R}) ≡ [] = entries_empty R in
      entries_more None fin.empty es (λ k h. subst (IsAbove R k) (sym none) tt) rises ∙ ap (λ (x : List (K × X)). x ++ es) none

  pub made_again : (m : fin.FinMap R X) → with_entries (fin.empty {X = X} {R = R}) (fin.entries m) ≡ m
  made_again m = fin.same_entries_map _ m (entries_made (fin.entries m) (map_rises R m))

-- ---- reading

-- A reader of keys takes the text of a key that passes the test and comes after the last one, and reads that text again.
pub record IsKeyReader {K : Type 0} (R : K → K → Ordering) (key_at : Option K → List ℕ → Read K) (text : K → List ℕ) (is_key : K → Bool) :
    Type 0 where
  pub takes : (last : Option K) (bytes : List ℕ) (k : K) (rest : List ℕ) → IsBytes bytes → key_at last bytes ≡ Ok (k, rest)
      → Takes bytes (text k) rest × (is_key k ≡ true) × (is_after R last k ≡ true)
  pub again : (last : Option K) (k : K) (rest : List ℕ) → is_key k ≡ true → is_after R last k ≡ true
      → key_at last (text k ++ rest) ≡ Ok (k, rest)
  pub some : (k : K) → 1 ≤ length (text k)

-- The text of an entry is the text of its key followed by that of its value.
abbrev pub IsSpelled : {K X : Type 0} → (K → List ℕ) → (X → List ℕ) → (K × X → List ℕ) → Type 0
IsSpelled {K} {X} key_text value_text entry = (e : K × X) → entry e ≡ key_text e.0 ++ value_text e.1

module _ {K X : Type 0} {R : K → K → Ordering}
    (key_at : Option K → List ℕ → Read K) (key_text : K → List ℕ) (is_key : K → Bool) (keys : IsKeyReader R key_at key_text is_key)
    (value_at : List ℕ → Read X) (value_text : X → List ℕ) (IsValue : X → Type 0) (values : IsReader value_at value_text IsValue)
    (entry : K × X → List ℕ) (spelled : IsSpelled key_text value_text entry) where
  record Taken (n : ℕ) (last : Option K) (bytes : List ℕ) (x : List (K × X) × List ℕ) : Type 0 where
    pub front : Takes bytes (flat_map entry x.0) x.1
    pub count : length x.0 ≡ n
    pub each : AllByRecursion (IsEntry is_key IsValue) x.0
    pub rises : Rises R last x.0

  rising_takes : (n : ℕ) (last : Option K) (bytes : List ℕ) (x : List (K × X) × List ℕ) → IsBytes bytes
      → rising_at key_at value_at n last bytes ≡ Ok x → Taken n last bytes x
  unfolding rising_at
  rising_takes zero last bytes x fits e =
      let none : List (K × X) × List ℕ = ([], bytes) in
      subst (λ (y : List (K × X) × List ℕ). Taken 0 last bytes y) (same_ok none x e)
      (record { front = record { parts = refl; rest_fits = fits }; count = refl; each = tt; rises = tt })
  rising_takes (suc n) last bytes x fits e =
      let a = parted (key_at last bytes) _ x e in
      let b = parted (value_at a.value.1) _ x a.next in
      let c = parted (rising_at key_at value_at n (Some a.value.0) b.value.1) _ x b.next in
      let first = keys.takes last bytes a.value.0 a.value.1 fits a.first in
      let second = values.takes a.value.1 b.value.0 b.value.1 first.0.rest_fits b.first in
      let third = rising_takes n (Some a.value.0) b.value.1 c.value second.0.rest_fits c.first in
      let one : Takes bytes (entry (a.value.0, b.value.0)) b.value.1 = subst (λ (t : List ℕ). Takes bytes t b.value.1)
      (sym (spelled (a.value.0, b.value.0))) (Takes-then bytes (key_text a.value.0) a.value.1 (value_text b.value.0) b.value.1 first.0
      second.0) in
      let both = Takes-then bytes (entry (a.value.0, b.value.0)) b.value.1 (flat_map entry c.value.0) c.value.1 one third.front in
      let all : List (K × X) × List ℕ = ((a.value.0, b.value.0) ∷ c.value.0, c.value.1) in
      subst (λ (y : List (K × X) × List ℕ). Taken (suc n) last bytes y) (same_ok all x c.next)
      (record {
        front = rw flat_map-cons both;
        count = ap suc third.count;
        each = (record { key = first.1; value = second.1 }, third.each);
        rises = (first.2, third.rises);
      })

  rising_again : (last : Option K) (es : List (K × X)) (rest : List ℕ) → AllByRecursion (IsEntry is_key IsValue) es → Rises R last es
      → length (flat_map entry es ++ rest) < 2 ^ 64 → rising_at key_at value_at (length es) last (flat_map entry es ++ rest) ≡ Ok (es, rest)
  unfolding rising_at
  rising_again last [] rest each rises fits = refl
  rising_again last (e ∷ es) rest each rises fits =
      let later = flat_map entry es ++ rest in
      let regrouped : flat_map entry (e ∷ es) ++ rest ≡ key_text e.0 ++ (value_text e.1 ++ later) =
      ap (λ (x : List ℕ). x ++ rest) (flat_map-cons entry e es ∙ ap (λ (x : List ℕ). x ++ flat_map entry es) (spelled e))
      ∙ append_assoc (key_text e.0 ++ value_text e.1) (flat_map entry es) rest ∙ append_assoc (key_text e.0) (value_text e.1) later in
      let whole : length (key_text e.0 ++ (value_text e.1 ++ later)) < 2 ^ 64 = subst (λ (x : List ℕ). length x < 2 ^ 64) regrouped fits in
      let behind : length (value_text e.1 ++ later) < 2 ^ 64 = omega (arith, whole, length-append (key_text e.0) (value_text e.1 ++ later))
      in
      let end : length later < 2 ^ 64 = omega (arith, behind, length-append (value_text e.1) later) in
      ap (rising_at key_at value_at (suc (length es)) last) regrouped
      ∙ rw (
        keys.again last e.0 (value_text e.1 ++ later) each.0.key rises.0,
        values.again e.1 later each.0.value behind,
        rising_again
            (Some e.0) es rest each.1 rises.1 end,
      ) refl

  -- Each entry has at least one byte.
  pub count_fits : (es : List (K × X)) → length es ≤ length (flat_map entry es)
  count_fits [] = omega arith
  count_fits (e ∷ es) =
      let one : length (flat_map entry (e ∷ es)) ≡ length (entry e) + length (flat_map entry es) = ap length (flat_map-cons entry e es) ∙
      length-append (entry e) (flat_map entry es) in
      let some : 1 ≤ length (entry e) = omega (arith, keys.some e.0, ap length (spelled e), length-append (key_text e.0) (value_text e.1))
      in
      omega (arith, one, some, count_fits es)

  module _ (o : IsTotalOrder R) (w : Width) (limit : ℕ) (wide : IsWide w limit) (whole : ℕ)
      (few : (m : fin.FinMap R X) → AreEntries is_key IsValue m → length (flat_map entry (fin.entries m)) < 2 ^ 64 → fin.len m < limit)
    where
      counted_takes : (bytes : List ℕ) (m : fin.FinMap R X) (rest : List ℕ) → IsBytes bytes
          → counted_at w whole key_at value_at bytes ≡ Ok (m, rest) → Takes bytes (counted w entry m) rest × AreEntries is_key IsValue m
      unfolding counted_at map_at
      counted_takes bytes m rest fits e =
          let n = parted (number_at w whole bytes) _ (m, rest) e in
          let es = parted (rising_at key_at value_at n.value.0 None n.value.1) _ (m, rest) n.next in
          let same = same_ok (with_entries fin.empty es.value.0, es.value.1) (m, rest) es.next in
          let first = number_takes w limit wide whole bytes n.value.0 n.value.1 fits n.first in
          let second = rising_takes n.value.0 None n.value.1 es.value first.0.rest_fits es.first in
          let held : fin.entries (with_entries (fin.empty {X = X} {R = R}) es.value.0) ≡ es.value.0 = entries_made o es.value.0 second.rises
          in
          let count : fin.len (with_entries (fin.empty {X = X} {R = R}) es.value.0) ≡ n.value.0 = fin.len-entries _ ∙ ap length held ∙
          second.count in
          let both = Takes-then bytes (to_be_bytes w n.value.0) n.value.1 (flat_map entry es.value.0) es.value.1 first.0 second.front in
          let text : to_be_bytes w n.value.0 ++ flat_map entry es.value.0 ≡ counted w entry
          (with_entries (fin.empty {X = X} {R = R}) es.value.0) = rw (count, held) refl in
          subst (λ (p : fin.FinMap R X × List ℕ). Takes bytes (counted w entry p.0) p.1 × AreEntries is_key IsValue p.0) same (
            subst (λ (t : List ℕ). Takes bytes t es.value.1) text both,
            subst (AllByRecursion (IsEntry is_key IsValue)) (sym held)
                second.each,
          )

      counted_again : (m : fin.FinMap R X) (rest : List ℕ) → AreEntries is_key IsValue m → length (counted w entry m ++ rest) < 2 ^ 64
          → counted_at w whole key_at value_at (counted w entry m ++ rest) ≡ Ok (m, rest)
      unfolding counted_at map_at
      counted_again m rest are fits =
          let text = flat_map entry (fin.entries m) in
          let regrouped : counted w entry m ++ rest ≡ to_be_bytes w (fin.len m) ++ (text ++ rest) = append_assoc (to_be_bytes w (fin.len m))
          text rest in
          let behind : length (text ++ rest) < 2 ^ 64 = omega (
            arith,
            subst (λ (x : List ℕ). length x < 2 ^ 64) regrouped fits,
            length-append
                (to_be_bytes w (fin.len m)) (text ++ rest),
          ) in
          let short : length text < 2 ^ 64 = omega (arith, behind, length-append text rest) in
          let again : rising_at key_at value_at (fin.len m) None (text ++ rest) ≡ Ok (fin.entries m, rest) =
          ap (λ (n : ℕ). rising_at key_at value_at n None (text ++ rest)) (fin.len-entries m) ∙ rising_again None (fin.entries m) rest are
          (map_rises R m) behind in
          ap (counted_at w whole key_at value_at) regrouped
          ∙ rw (number_again w limit wide whole (fin.len m) (text ++ rest) (few m are short), again)
          (ap (λ (x : fin.FinMap R X). Ok (x, rest)) (made_again o m))

      -- The reader of a map takes its text, with the count first, and reads it again.
      pub counted_reader : IsReader (counted_at {R = R} w whole key_at value_at) (counted w entry) (AreEntries is_key IsValue)
      counted_reader = record { takes = counted_takes; again = counted_again }
