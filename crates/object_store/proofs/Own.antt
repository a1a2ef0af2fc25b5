-- Entries whose keys have the texts at which they are stored.
use Rattle.text_and_lists.proofs.Viewed.{first_between, first_map, get_viewed}
use Rattle.text_and_lists.specs.Order.{text_cmp, text_total}
use Rattle.object_store.specs.Held.{contents, lent}
use Rattle.object_store.specs.inner.Held.{AreOwn}
use Rattle.object_store.specs.declared.objects.Held.{Held}
use Rattle.s3_types.specs.declared.object.Object.{Object}
use Rattle.std.proofs.Common.{Bool, List, Option, ap, arith, cond, false, refl, sym, true, ℕ, [], ◌∙◌, ◌∷◌, ◌≡◌}
use Rattle.std.proofs.lemmas.Map.Lookups.{exact_bytes}
use Rattle.std.specs.BTreeMap.{insert_entry, is_at}
use Rattle.std.specs.BTreeMap.Range.{entries_between, range_contains}
use Rattle.std.specs.FinMap.{from_entries, get}
use Rattle.std.specs.List.{filter, slice_get}
use Rattle.std.specs.Map.{lookup, remove_entry}
use Rattle.std.specs.Option.{option_map}
use Rattle.std.specs.Ordering.{match_ordering}
use Rattle.std.specs.declared.cmp.Ordering.{Ordering}
use Rattle.std.specs.declared.ops.Bound.{Bound}

pub own_insert : (es : List (List ℕ × Held)) (k : List ℕ) (h : Held) → h.key ≡ k → AreOwn es → AreOwn (insert_entry text_cmp es k h)
own_insert [] k h is own = (is, tt)
own_insert (e ∷ es) k h is own = by (text_cmp k e.0) refl (own_insert es k h is own.1)
  where
    by : (r : Ordering) → text_cmp k e.0 ≡ r → AreOwn (insert_entry text_cmp es k h)
        → AreOwn (match_ordering r ((k, h) ∷ e ∷ es) ((e.0, h) ∷ es) (e ∷ insert_entry text_cmp es k h))
    by r h g = grind (arith, exact_bytes)

pub own_remove : (test : List ℕ → Bool) (es : List (List ℕ × Held)) → AreOwn es → AreOwn (remove_entry test es)
own_remove test [] own = tt
own_remove test (e ∷ es) own =
    (elim (test e.0) as (λ b. AreOwn (remove_entry test es) → AreOwn (cond b es (e ∷ remove_entry test es)))
    [ true ↦ λ ih. own.1 | false ↦ λ ih. (own.0, ih) ]) (own_remove test es own.1)

pub own_filter : (p : List ℕ × Held → Bool) (es : List (List ℕ × Held)) → AreOwn es → AreOwn (filter p es)
own_filter p [] own = tt
own_filter p (e ∷ es) own = (elim (p e) as (λ b. AreOwn (filter p es) → AreOwn (cond b (e ∷ filter p es) (filter p es)))
    [ true ↦ λ ih. (own.0, ih) | false ↦ λ ih. ih ]) (own_filter p es own.1)

-- The entry, with its own key.
abbrev pub by_own_key : List ℕ × Held → List ℕ × Object
by_own_key e = (e.1.key, e.1.object)

-- The objects by their own keys are the objects by the texts at which they are stored.
pub own_contents : (es : List (List ℕ × Held)) → AreOwn es → lent es ≡ contents es
own_contents [] own = refl
own_contents (e ∷ es) own = λ i. (own.0 i, e.1.object) ∷ own_contents es own.1 i

-- The first entry between two bounds is the same in both.
pub first_lent : (es : List (List ℕ × Held)) (lo hi : Bound (List ℕ)) → AreOwn es
    → option_map by_own_key (slice_get (entries_between text_cmp lo hi es) 0) ≡ slice_get (entries_between text_cmp lo hi (contents es)) 0
first_lent es lo hi own =
    let fs : List (List ℕ × Held) = entries_between text_cmp lo hi es in
    sym (first_map by_own_key fs)
    ∙ ap (λ (l : List (List ℕ × Object)). slice_get l 0) (own_contents fs (own_filter (λ e. range_contains text_cmp lo hi e.0) es own))
    ∙ first_map (λ e. (e.0, e.1.object)) fs
    ∙ sym (first_between (λ h. h.object) text_cmp lo hi es)

-- A lookup in the tree returns what the map has at the text.
pub got : (es : List (List ℕ × Held)) (o : Option Held) (k : List ℕ) → o ≡ lookup (is_at (text_cmp k)) es
    → option_map (λ (h : Held). h.object) o ≡ get (from_entries {R = text_cmp} (contents es)) k
got es o k h = ap (option_map (λ (h : Held). h.object)) h ∙ sym (get_viewed (λ (h : Held). h.object) text_total es k)
