-- A walk goes on page by page, and it ends.
use Rattle.text_and_lists.proofs.Naturals.{below_is, below_not}
use Rattle.bucket_ops.specs.Asks.{reply_in}
use Rattle.bucket_ops.specs.Walking.{IsWalking, fits, is_there, walk_asks, walk_left}
use Rattle.bucket_ops.specs.inner.Walking.{IsWalked, LessWalked}
use Rattle.list_walk.proofs.Fitted.{keys_decide}
use Rattle.list_walk.proofs.Keys.{keys_joined, page_keys}
use Rattle.list_walk.proofs.Listing.{behind_page, last_append}
use Rattle.list_walk.specs.Fitting.{FitsPage}
use Rattle.list_walk.specs.Walks.{keys_on, last_of, walked_by, walked_entries}
use Rattle.s3_types.specs.Pages.{listed, page}
use Rattle.s3_types.specs.Store.{Objects}
use Rattle.s3_types.specs.declared.reply.PageEntry.{PageEntry}
use Rattle.s3_types.specs.declared.reply.Refusal.TheVariants.{NoSuchBucket}
use Rattle.s3_types.specs.declared.reply.Reply.{Reply}
use Rattle.s3_types.specs.declared.reply.Reply.TheVariants.{Page, Refused}
use Rattle.std.proofs.Common.{Bool, Decides, List, ap, append_assoc, arith, drop, false, length, length-append, length-drop, nat_lt, refl}
use Rattle.std.proofs.Common.{sym, take, true, ℕ, [], ◌*◌, ◌++◌, ◌+◌, ◌∙◌, ◌≡◌}
use Rattle.std.proofs.lemmas.Bool.{true≢false}
use Rattle.std.proofs.lemmas.List.{length-take, take-append-drop, take_all}

-- ---- replies that may come to a walk

pub fits_decides : (r : Reply) → Decides (fits r) (FitsPage r)
fits_decides (Page es more) = keys_decide es
fits_decides (Refused r) = elim r as (λ r. Decides (is_there r) (FitsPage (Refused r))) [
  | NoSuchBucket ↦ (λ e. absurd (true≢false (sym e)), λ h. absurd h)
  | r ↦ (λ _. tt, λ _. refl)
]
fits_decides r = (λ _. tt, λ _. refl)

same_decided : (a b : Bool) (P : Type 0) → Decides a P → Decides b P → a ≡ b
same_decided true false P h g = sym (g.1 (h.0 refl))
same_decided false true P h g = h.1 (g.0 refl)
same_decided _ _ P h g = refl

pub fits_so : (b : Bool) (r : Reply) → Decides b (FitsPage r) → b ≡ fits r
fits_so b r h = same_decided b (fits r) (FitsPage r) h (fits_decides r)

pub page_fits : (n : ℕ) (p a : List ℕ) (z : Objects) → fits (page n (listed p false a z)) ≡ true
page_fits n p a z = (keys_decide (take n (listed p false a z))).1 (page_keys n p a z)

pub walk_fits : (q : List ℕ) (found : List PageEntry) (m : Objects) → fits (reply_in m (walk_asks q found)) ≡ true
walk_fits q found m = page_fits 1000 q (last_of (keys_on found)) m

-- ---- pages

-- The entries that are left after a page.
behind : (q : List ℕ) (m : Objects) (found : List PageEntry) (l : List PageEntry) → listed q false (last_of (keys_on found)) m ≡ l
    → listed q false (last_of (keys_on (found ++ take 1000 l))) m ≡ drop 1000 l
behind q m found l e =
    ap (λ ks. listed q false (last_of ks) m) (keys_joined found (take 1000 l))
    ∙ ap (λ a. listed q false a m) (last_append (keys_on found) (keys_on (take 1000 l)))
    ∙ behind_page q (last_of (keys_on found)) m 1000 l e

module _ (q : List ℕ) (z : Objects) where
  pub walk_begins : IsWalking q z []
  walk_begins = refl

  paged : (found l : List PageEntry) → listed q false (last_of (keys_on found)) z ≡ l → IsWalking q z found → (c : Bool)
      → nat_lt 1000 (length l) ≡ c → IsWalked q z (walked_by c (found ++ take 1000 l))
  paged found l e h true t =
      ap (λ x. (found ++ take 1000 l) ++ x) (behind q z found l e)
      ∙ append_assoc found (take 1000 l) (drop 1000 l)
      ∙ ap (λ x. found ++ x) (take-append-drop 1000 l ∙ sym e) ∙ h
  paged found l e h false t = ap (λ x. found ++ x) (take_all 1000 l (below_not 1000 (length l) t) ∙ sym e) ∙ h

  -- After a page, the walk goes on as it should.
  pub walk_goes : (found : List PageEntry) → IsWalking q z found → IsWalked q z (walked_entries found (reply_in z (walk_asks q found)))
  walk_goes found h = paged found (listed q false (last_of (keys_on found)) z) refl h
      (nat_lt 1000 (length (listed q false (last_of (keys_on found)) z))) refl

-- ---- what is left

less_paged : (q : List ℕ) (m : Objects) (found l : List PageEntry) → listed q false (last_of (keys_on found)) m ≡ l → (c : Bool)
    → nat_lt 1000 (length l) ≡ c
    → LessWalked q m (walked_by c (found ++ take 1000 l)) (1 + length found + 2 * length l)
less_paged q m found l e true t =
    omega (
      arith,
      length-append found (take 1000 l),
      length-take 1000 l,
      ap length (behind q m found l e),
      length-drop 1000 l,
      below_is 1000
          (length l) t,
    )
less_paged q m found l e false t = omega (arith, length-append found (take 1000 l), length-take 1000 l)

pub walk_falls : (q : List ℕ) (found : List PageEntry) (m : Objects)
    → LessWalked q m (walked_entries found (reply_in m (walk_asks q found))) (walk_left q found m)
walk_falls q found m = less_paged q m found (listed q false (last_of (keys_on found)) m) refl
    (nat_lt 1000 (length (listed q false (last_of (keys_on found)) m))) refl
