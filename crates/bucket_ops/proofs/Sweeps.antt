-- A sweep lists all keys and deletes them, and it ends.
use Rattle.text_and_lists.proofs.Tree.{filter_all}
use Rattle.bucket_ops.proofs.Batches.{batch_goes, deleting_all, within}
use Rattle.bucket_ops.proofs.Walks.{fits_decides, page_fits, walk_falls, walk_goes}
use Rattle.bucket_ops.specs.Asks.{DropAll, edited, reply_in}
use Rattle.bucket_ops.specs.Sweeping.{IsSweeping, sweep_asks, sweep_left}
use Rattle.bucket_ops.specs.inner.Sweeping.{IsDeleted, IsSwept, LessLeft}
use Rattle.bucket_ops.specs.Walking.{IsWalking, fits, keys_below, walk_asks}
use Rattle.bucket_ops.specs.inner.Walking.{IsWalked, LessWalked}
use Rattle.list_walk.proofs.Keys.{on_keys, walked_keys}
use Rattle.list_walk.specs.Fitting.{FitsSweep}
use Rattle.list_walk.specs.Walks.{Deleting, Listing, More, Sweep, Walked, Whole, all_go, deleting, keys_on, last_of, sweep_hears}
use Rattle.list_walk.specs.Walks.{sweep_start, swept, walked_entries}
use Rattle.s3_types.specs.Pages.{listed}
use Rattle.s3_types.specs.Store.{Objects}
use Rattle.s3_types.specs.declared.reply.PageEntry.{PageEntry}
use Rattle.s3_types.specs.declared.reply.PageEntry.TheVariants.{Object as Single}
use Rattle.s3_types.specs.declared.reply.Refusal.TheVariants.{TooManyKeys}
use Rattle.s3_types.specs.declared.reply.Reply.{Reply}
use Rattle.s3_types.specs.declared.reply.Reply.TheVariants.{Deleted, Refused}
use Rattle.std.proofs.Common.{Bool, List, ap, arith, cond, drop, false, length, length-drop, map, nat_lt, refl, subst, suc, sym, take, true}
use Rattle.std.proofs.Common.{ℕ, [], ◌*◌, ◌+◌, ◌<◌, ◌∙◌, ◌∷◌, ◌≡◌}
use Rattle.std.proofs.lemmas.Bool.{false≢true}
use Rattle.std.specs.List.{filter}

pub sweep_fits : (q : List ℕ) (w : Sweep) (m : Objects) → fits (reply_in m (sweep_asks q w)) ≡ true
sweep_fits q (Listing keys) m = page_fits 1000 q (last_of keys) m
sweep_fits q (Deleting k ks) m = by (nat_lt 1000 (length (take 1000 (k ∷ ks)))) (within (k ∷ ks))
  where
    by : (b : Bool) → b ≡ false → fits (cond b (Refused TooManyKeys) Deleted) ≡ true
    by false e = refl
    by true e = absurd (false≢true (sym e))

-- A reply that passes `fits` may come to the sweep.
pub sweep_fits_so : (w : Sweep) (r : Reply) → fits r ≡ true → FitsSweep w r
sweep_fits_so (Listing keys) r e = (fits_decides r).0 e
sweep_fits_so (Deleting k ks) r e = tt

module _ (q : List ℕ) (z : Objects) where
  pub sweep_begins : IsSweeping q z sweep_start z
  sweep_begins = (refl, ([], refl, refl))

  swept_batch : (ks : List (List ℕ)) (m : Objects) → IsDeleted z (keys_below q z) (deleting ks) m → IsSwept q z (deleting ks) m
  swept_batch [] m h = h
  swept_batch (k ∷ ks) m h = h

  swept_walk : (w : Walked PageEntry) → IsWalked q z w → IsSwept q z (swept all_go (on_keys w)) z
  swept_walk (More found) h = (refl, (found, refl, h))
  swept_walk (Whole found) h = swept_batch (filter all_go (keys_on found)) z (deleting_all z (keys_below q z)
      (filter all_go (keys_on found)) (filter_all (keys_on found) ∙ ap keys_on h))

  listing_goes : (found : List PageEntry) → IsWalking q z found
      → IsSwept q z (sweep_hears all_go (Listing (keys_on found)) (reply_in z (walk_asks q found))) z
  listing_goes found h =
      subst (λ w. IsSwept q z (swept all_go w) z) (sym (walked_keys found (reply_in z (walk_asks q found))))
      (swept_walk (walked_entries found (reply_in z (walk_asks q found))) (walk_goes q z found h))

  -- After the answer that the store gives, the sweep goes on as it should.
  pub sweep_goes : (w : Sweep) (m : Objects) → IsSweeping q z w m
      → IsSwept q z (sweep_hears all_go w (reply_in m (sweep_asks q w))) (edited (sweep_asks q w) m)
  sweep_goes (Listing keys) m h =
      subst (λ m. IsSwept q z (sweep_hears all_go (Listing keys) (reply_in m (sweep_asks q (Listing keys)))) m) (sym h.0)
      (subst (λ ks. IsSwept q z (sweep_hears all_go (Listing ks) (reply_in z (sweep_asks q (Listing ks)))) z) (sym h.1.1)
      (listing_goes h.1.0 h.1.2))
  sweep_goes (Deleting k ks) m h = swept_batch (drop 1000 (k ∷ ks)) (edited (DropAll (take 1000 (k ∷ ks))) m)
      (batch_goes z (keys_below q z) (k ∷ ks) m h)

-- ---- what is left

pub length_keys : (es : List PageEntry) → length (keys_on es) ≡ length es
length_keys [] = refl
length_keys (e ∷ es) = ap suc (length_keys es)

-- An entry with this key.
abbrev single : List ℕ → PageEntry
single k = Single k 0

keys_back : (keys : List (List ℕ)) → keys_on (map single keys) ≡ keys
keys_back [] = refl
keys_back (k ∷ keys) = ap (λ ks. k ∷ ks) (keys_back keys)

less_deleting : (q : List ℕ) (m : Objects) (l : List (List ℕ)) (n : ℕ) → length l < n → LessLeft q m (deleting l) n
less_deleting q m [] n h = omega (arith, h)
less_deleting q m (k ∷ ks) n h = h

less_swept : (q : List ℕ) (m : Objects) (w : Walked PageEntry) (n : ℕ) → LessWalked q m w n → LessLeft q m (swept all_go (on_keys w)) n
less_swept q m (More found) n h = let e = length_keys found in omega (arith, e, h)
less_swept q m (Whole found) n h = less_deleting q m (filter all_go (keys_on found)) n
    (let a = ap length (filter_all (keys_on found)) in let b = length_keys found in omega (arith, a, b, h))

less_listing : (q : List ℕ) (found : List PageEntry) (m : Objects)
    → LessLeft q m (sweep_hears all_go (Listing (keys_on found)) (reply_in m (walk_asks q found)))
    (sweep_left q (Listing (keys_on found)) m)
less_listing q found m =
    subst (λ w. LessLeft q m (swept all_go w) (sweep_left q (Listing (keys_on found)) m))
    (sym (walked_keys found (reply_in m (walk_asks q found))))
    (less_swept q m (walked_entries found (reply_in m (walk_asks q found))) (sweep_left q (Listing (keys_on found)) m)
    (subst (λ n. LessWalked q m (walked_entries found (reply_in m (walk_asks q found)))
    (1 + n + 2 * length (listed q false (last_of (keys_on found)) m))) (sym (length_keys found)) (walk_falls q found m)))

pub sweep_falls : (q : List ℕ) (w : Sweep) (m : Objects)
    → LessLeft q (edited (sweep_asks q w) m) (sweep_hears all_go w (reply_in m (sweep_asks q w))) (sweep_left q w m)
sweep_falls q (Listing keys) m =
    subst (λ ks. LessLeft q m (sweep_hears all_go (Listing ks) (reply_in m (sweep_asks q (Listing ks)))) (sweep_left q (Listing ks) m))
    (keys_back keys) (less_listing q (map single keys) m)
sweep_falls q (Deleting k ks) m = less_deleting q (edited (DropAll (take 1000 (k ∷ ks))) m) (drop 1000 (k ∷ ks)) (length (k ∷ ks))
    (let a = length-drop 1000 (k ∷ ks) in omega (arith, a))

pub sweep_stays : (q : List ℕ) (w : Sweep) (m : Objects) → sweep_left q w (edited (sweep_asks q w) m) ≡ sweep_left q w m
sweep_stays q (Listing keys) m = refl
sweep_stays q (Deleting k ks) m = refl
