-- One batch after another.
use Rattle.list_walk.specs.Kept.{deleting_from, sweep_at}
use Rattle.list_walk.specs.inner.Kept.{from_if, next_from}
use Rattle.list_walk.specs.Walks.{deleting, sweep_hears}
use Rattle.s3_types.specs.declared.reply.Reply.{Reply}
use Rattle.std.proofs.Common.{Bool, List, None, Some, ap, arith, drop, false, length, length-drop, nat_lt, refl, sym, true, ℕ, ◌&&◌, ◌+◌}
use Rattle.std.proofs.Common.{◌-◌, ◌<◌, ◌∙◌, ◌≡◌, ◌≤◌}
use Rattle.std.proofs.lemmas.List.{drop-drop}

hears_from : (goes : List ℕ → Bool) (r : Reply) (l : List (List ℕ)) → 0 < length l
    → sweep_hears goes (deleting_from l) r ≡ deleting (drop 1000 l)
hears_from goes r l h = grind arith

some_left : (l : List (List ℕ)) → 0 < length l → deleting l ≡ Some (deleting_from l)
some_left l h = grind arith

none_left : (l : List (List ℕ)) → length l ≡ 0 → deleting l ≡ None
none_left l h = grind arith

hears_at : (goes : List ℕ → Bool) (r : Reply) (keys : List (List ℕ)) (from : ℕ) → from < length keys
    → sweep_hears goes (deleting_from (drop from keys)) r ≡ deleting (drop (from + 1000) keys)
hears_at goes r keys from h = hears_from goes r (drop from keys) (omega (arith, length-drop from keys)) ∙ ap deleting
    (drop-drop 1000 from keys)

next_is : (a b : Bool) (from n len : ℕ) → nat_lt from len ≡ a → nat_lt 1000 (len - from) ≡ b → from_if (a && b) (from + 1000) ≡ Some n
    → (n ≡ from + 1000) × (from < len) × (1000 < len - from)
next_is a b from n len h g e = grind arith

last_is : (a b : Bool) (from len : ℕ) → nat_lt from len ≡ a → nat_lt 1000 (len - from) ≡ b → from_if (a && b) (from + 1000) ≡ None
    → len ≤ from + 1000
last_is a b from len h g e = grind arith

-- A batch is deleted, and the next one follows.
pub batch_next : (goes : List ℕ → Bool) (r : Reply) (listing : Bool) (found keys : List (List ℕ)) (from n : ℕ) → listing ≡ false
    → next_from from (length keys) ≡ Some n → sweep_hears goes (sweep_at listing found keys from) r ≡ Some (sweep_at listing found keys n)
batch_next goes r true found keys from n h e = absurd (cc)
batch_next goes r false found keys from n h e =
    let w = next_is (nat_lt from (length keys)) (nat_lt 1000 (length keys - from)) from n (length keys) refl refl e in
    hears_at goes r keys from w.1 ∙ ap (λ n. deleting (drop n keys)) (sym w.0)
    ∙ some_left (drop n keys) (omega (arith, length-drop n keys, w.0, w.1, w.2))

-- The last batch is deleted.
pub batch_last : (goes : List ℕ → Bool) (r : Reply) (listing : Bool) (found keys : List (List ℕ)) (from : ℕ) → listing ≡ false
    → from < length keys → next_from from (length keys) ≡ None → sweep_hears goes (sweep_at listing found keys from) r ≡ None
batch_last goes r true found keys from h l e = absurd (cc)
batch_last goes r false found keys from h l e =
    let i = last_is (nat_lt from (length keys)) (nat_lt 1000 (length keys - from)) from (length keys) refl refl e in
    hears_at goes r keys from l ∙ none_left (drop (from + 1000) keys) (omega (arith, length-drop (from + 1000) keys, i))
