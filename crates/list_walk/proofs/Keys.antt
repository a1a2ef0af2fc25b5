-- Entries that are keys.
use Rattle.text_and_lists.specs.Order.{text_cmp}
use Rattle.list_walk.specs.Fitting.{AreKeys}
use Rattle.list_walk.specs.Walks.{More, Walked, Whole, keys_on, walked, walked_by, walked_entries}
use Rattle.s3_types.specs.Pages.{begins, entry_of, folded_from, is_again, listed, text_in}
use Rattle.s3_types.specs.Store.{Objects}
use Rattle.s3_types.specs.declared.object.Object.{Object}
use Rattle.s3_types.specs.declared.reply.PageEntry.{PageEntry}
use Rattle.s3_types.specs.declared.reply.Reply.{Reply}
use Rattle.std.proofs.Common.{Bool, Err, IfOk, List, None, Ok, Option, Result, Some, ap, arith, cond, false, map, refl, suc, take, true, ℕ}
use Rattle.std.proofs.Common.{[], ◌++◌, ◌∙◌, ◌∷◌, ◌≡◌}
use Rattle.std.proofs.lemmas.List.{map-append}
use Rattle.std.specs.List.{filter}
use Rattle.std.specs.Ordering.{is_lt}
use Rattle.std.specs.FinMap as fin

pub are_keys : (es fs : List PageEntry) → AreKeys es → AreKeys fs → AreKeys (es ++ fs)
are_keys [] fs h g = g
are_keys (e ∷ es) fs h g = (h.0, are_keys es fs h.1 g)

pub keys_joined : (es fs : List PageEntry) → keys_on (es ++ fs) ≡ keys_on es ++ keys_on fs
keys_joined = map-append text_in

-- ---- a page without a delimiter has only keys

keys_mapped : (p : List ℕ) (es : List (List ℕ × Object)) → AreKeys (map (entry_of p false) es)
keys_mapped p [] = tt
keys_mapped p (e ∷ es) = (tt, keys_mapped p es)

keys_filtered : (test : PageEntry → Bool) (es : List PageEntry) → AreKeys es → AreKeys (filter test es)
keys_filtered test [] h = tt
keys_filtered test (e ∷ es) h = elim (test e) as (λ b. AreKeys (cond b (e ∷ filter test es) (filter test es))) [
  | true ↦ (h.0, keys_filtered test es h.1)
  | false ↦ keys_filtered test es h.1
]

keys_folded : (last : Option (List ℕ)) (es : List PageEntry) → AreKeys es → AreKeys (folded_from last es)
keys_folded last [] h = tt
keys_folded last (e ∷ es) h = elim (is_again last e) as (λ b. AreKeys
    (cond b (folded_from last es) (e ∷ folded_from (Some (text_in e)) es))) [
      | true ↦ keys_folded last es h.1
      | false ↦ (h.0, keys_folded (Some (text_in e)) es h.1)
    ]

keys_taken : (n : ℕ) (es : List PageEntry) → AreKeys es → AreKeys (take n es)
keys_taken (suc n) (e ∷ es) h = (h.0, keys_taken n es h.1)
keys_taken _ _ h = tt

pub page_keys : (n : ℕ) (p a : List ℕ) (m : Objects) → AreKeys (take n (listed p false a m))
page_keys n p a m = keys_taken n _ (keys_folded None _ (keys_filtered (λ x. is_lt (text_cmp a (text_in x))) _
    (keys_mapped p (filter (λ e. begins p e.0) (fin.entries m)))))

-- ---- walks

-- The keys of a walk's entries.
abbrev pub on_keys : Walked PageEntry → Walked (List ℕ)
on_keys (More es) = More (keys_on es)
on_keys (Whole es) = Whole (keys_on es)

-- A walk over entries is a walk over their keys.
pub walked_keys : (found : List PageEntry) (r : Reply) → walked (keys_on found) r ≡ on_keys (walked_entries found r)
walked_keys found r = grind (arith, keys_joined)

pub heard_keys : {E : Type 0} (old new : List PageEntry) (r : Reply) (heard : Result Bool E)
    → IfOk heard (λ more. walked_entries old r ≡ walked_by more new)
    → IfOk heard (λ more. walked (keys_on old) r ≡ walked_by more (keys_on new))
heard_keys old new r (Ok more) h = walked_keys old r ∙ ap on_keys h ∙ (elim more as
    (λ b. on_keys (walked_by b new) ≡ walked_by b (keys_on new)) [ true ↦ refl | false ↦ refl ])
heard_keys old new r (Err e) h = h
