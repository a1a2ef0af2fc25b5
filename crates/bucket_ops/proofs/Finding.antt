-- A walk finds exactly the keys below its prefix.
use Rattle.bucket_ops.proofs.Below.{below_stands}
use Rattle.bucket_ops.proofs.Rising.{sorted}
use Rattle.bucket_ops.proofs.Walks.{walk_begins, walk_falls, walk_goes}
use Rattle.bucket_ops.specs.Asks.{reply_in}
use Rattle.bucket_ops.specs.Walking.{FindsAll, all_below, keys_below, told_pages, walk_asks, walk_left}
use Rattle.bucket_ops.specs.inner.Walking.{IsWalked, LessWalked}
use Rattle.list_walk.specs.Walks.{More, Walked, Whole, walked_entries}
use Rattle.s3_types.specs.Store.{Objects}
use Rattle.s3_types.specs.declared.reply.PageEntry.{PageEntry}
use Rattle.std.proofs.Common.{List, ap, arith, refl, suc, ℕ, [], ◌∷◌, ◌≡◌}
use Rattle.std.specs.Prelude.{zero, ◌≤◌}
use Rattle.store_frame.proofs.Flat.{listed_all, listed_rises}

module _ (q : List ℕ) (z : Objects) where
  -- At most n pages are to come.
  abbrev IsLeft : Walked PageEntry → ℕ → Type 0
  IsLeft (More found) n = walk_left q found z ≤ n
  IsLeft (Whole found) n = Unit {0}

  less_left : (w : Walked PageEntry) (m n : ℕ) → LessWalked q z w m → m ≤ suc n → IsLeft w n
  less_left (More found) m n h l = omega (arith, h, l)
  less_left (Whole found) m n h l = tt

  told : (n : ℕ) (w : Walked PageEntry) → IsWalked q z w → IsLeft w n → told_pages n q z w ≡ Whole (all_below q z)
  told zero (Whole found) h l = ap Whole h
  told zero (More found) h l = absurd (omega (arith, l))
  told (suc n) (Whole found) h l = ap Whole h
  told (suc n) (More found) h l =
      let w = walked_entries found (reply_in z (walk_asks q found)) in
      told n w (walk_goes q z found h) (less_left w (walk_left q found z) n (walk_falls q found z) l)

pub finds_all : FindsAll
finds_all = record {
  ends = λ q z n h. told q z n (More []) (walk_begins q z) h;
  each = λ q k z i. below_stands q z k i;
  all = λ q x k z o e b. listed_all q [] z (x ∷ k) o e b refl;
  rises = λ q z. sorted [] (keys_below q z) (listed_rises q [] z);
}
