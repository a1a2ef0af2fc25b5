-- A walk over all keys below a prefix, as a part of an operation on a bucket's objects (Amazon S3 API: ListObjectsV2).
use Rattle.bucket_ops.specs.Asks.{Ask, Page, reply_in}
use Rattle.list_walk.specs.Fitting.{is_key}
use Rattle.list_walk.specs.Walks.{More, Walked, Whole, keys_on, last_of, walked_entries}
use Rattle.s3_types.specs.Pages.{begins, listed}
use Rattle.s3_types.specs.Store.{Objects}
use Rattle.s3_types.specs.declared.object.Object.{Object}
use Rattle.s3_types.specs.declared.reply.PageEntry.{PageEntry}
use Rattle.s3_types.specs.declared.reply.Refusal.{Refusal}
use Rattle.s3_types.specs.declared.reply.Refusal.TheVariants.{NoSuchBucket}
use Rattle.s3_types.specs.declared.reply.Reply.{Reply}
use Rattle.s3_types.specs.declared.reply.Reply.TheVariants.{Page as APage, Refused}
use Rattle.std.specs.List.{list_all}
use Rattle.std.specs.List.Sorted.{IsStrictlySortedBy}
use Rattle.std.specs.Prelude.{Bool, List, Some, false, length, suc, true, zero, ℕ, [], ◌*◌, ◌++◌, ◌+◌, ◌∷◌, ◌≡◌, ◌≤◌}
use Rattle.text_and_lists.specs.Members.{IsIn}
use Rattle.text_and_lists.specs.Order.{text_cmp}
use Rattle.std.specs.FinMap as fin

-- The entries of all keys below a prefix.
abbrev pub all_below : List ℕ → Objects → List PageEntry
all_below q z = listed q false [] z

-- All keys below a prefix, in order.
abbrev pub keys_below : List ℕ → Objects → List (List ℕ)
keys_below q z = keys_on (all_below q z)

-- The request for the page after these entries.
abbrev pub walk_asks : List ℕ → List PageEntry → Ask
walk_asks q found = Page q false (last_of (keys_on found)) 1000

-- True if the refusal does not say that the bucket is missing.
abbrev pub is_there : Refusal → Bool
is_there NoSuchBucket = false
is_there _ = true

-- True if a walk may receive this reply: a page has only keys, and the bucket is not missing.
abbrev pub fits : Reply → Bool
fits (APage es more) = list_all is_key es
fits (Refused r) = is_there r
fits _ = true

-- The entries found so far and those that are left are all.
abbrev pub IsWalking : List ℕ → Objects → List PageEntry → Type 0
IsWalking q z found = found ++ listed q false (last_of (keys_on found)) z ≡ all_below q z

-- At most this much is left, if each key that is found takes one step more.
abbrev pub walk_left : List ℕ → List PageEntry → Objects → ℕ
walk_left q found m = 1 + length found + 2 * length (listed q false (last_of (keys_on found)) m)

-- ---- a walk that receives the pages that the store gives

-- The walk after it received n pages, each the one that the store gives.
abbrev pub told_pages : ℕ → List ℕ → Objects → Walked PageEntry → Walked PageEntry
told_pages zero q z w = w
told_pages (suc n) q z (Whole found) = Whole found
told_pages (suc n) q z (More found) = told_pages n q z (walked_entries found (reply_in z (walk_asks q found)))

-- A walk finds exactly the keys below its prefix that exist.
pub record FindsAll : Type 0 where
  -- It ends, with all of them.
  pub ends : (q : List ℕ) (z : Objects) (n : ℕ) → walk_left q [] z ≤ n → told_pages n q z (More []) ≡ Whole (all_below q z)
  -- Each begins with the prefix, and its object exists.
  pub each : (q k : List ℕ) (z : Objects) → IsIn k (keys_below q z) → (begins q k ≡ true) × ((o : Object) × (fin.get z k ≡ Some o))
  -- Each such key is found. The empty text is no key.
  pub all : (q : List ℕ) (x : ℕ) (k : List ℕ) (z : Objects) (o : Object) → fin.get z (x ∷ k) ≡ Some o → begins q (x ∷ k) ≡ true
      → IsIn (x ∷ k) (keys_below q z)
  -- Each is found once, in the order of the bytes.
  pub rises : (q : List ℕ) (z : Objects) → IsStrictlySortedBy text_cmp (keys_below q z)
