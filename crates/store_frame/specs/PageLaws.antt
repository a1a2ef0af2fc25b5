-- The laws of this crate.
use Rattle.text_and_lists.specs.Members.{IsIn, RisesFrom, last_from}
use Rattle.text_and_lists.specs.Order.{text_cmp}
use Rattle.s3_types.specs.Answer.{apply}
use Rattle.s3_types.specs.Pages.{begins, listed, text_in}
use Rattle.s3_types.specs.Requests.{only_reads}
use Rattle.s3_types.specs.Store.{Objects, Scene}
use Rattle.s3_types.specs.declared.object.Object.{Object}
use Rattle.s3_types.specs.declared.request.Request.{Request}
use Rattle.std.specs.Ordering.{is_lt}
use Rattle.std.specs.Prelude.{List, Some, false, length, map, nat_lt, take, true, ℕ, ◌≡◌, ◌⊎◌}
use Rattle.store_frame.specs.Frame.{Frame}
use Rattle.store_frame.specs.Held.{HasBucket}
use Rattle.std.specs.FinMap as fin

-- A request changes only what it names, and a request that only reads changes nothing.
pub record RequestsKeep : Type 0 where
  pub frame : (s : Scene) (n : List ℕ) (r : Request) → HasBucket s.content n → Frame s (apply s r) n r
  pub reads : (s : Scene) (r : Request) → only_reads r ≡ true → apply s r ≡ s

-- The keys on a page without a delimiter.
abbrev pub keys_listed : ℕ → List ℕ → List ℕ → Objects → List (List ℕ)
keys_listed limit p after m = map text_in (take limit (listed p false after m))

-- The pages of a listing without a delimiter have, one after another, all existing keys with the prefix in order, and no others.
pub record PagesCover : Type 0 where
  -- The keys of a page rise, and are greater than `after`.
  pub rises : (limit : ℕ) (p after : List ℕ) (m : Objects) → RisesFrom after (keys_listed limit p after m)
  -- Each key on the page begins with the prefix and exists.
  pub begin : (limit : ℕ) (p after k : List ℕ) (m : Objects) → IsIn k (keys_listed limit p after m) → (begins p k ≡ true)
      × ((x : Object) × (fin.get m k ≡ Some x))
  -- Each existing key after `after` is on the page, or after the page's last key.
  pub cover : (limit : ℕ) (p after k : List ℕ) (m : Objects) (x : Object) → fin.get m k ≡ Some x → begins p k ≡ true
      → is_lt (text_cmp after k) ≡ true
      → IsIn k (keys_listed limit p after m) ⊎ (is_lt (text_cmp (last_from after (keys_listed limit p after m)) k) ≡ true)
  -- If no more remain, each of them is on the page.
  pub all : (limit : ℕ) (p after k : List ℕ) (m : Objects) (x : Object) → nat_lt limit (length (listed p false after m)) ≡ false
      → fin.get m k ≡ Some x → begins p k ≡ true → is_lt (text_cmp after k) ≡ true
      → IsIn k (keys_listed limit p after m)
