-- The laws of this crate.
use Rattle.std.specs.Prelude.{◌≡◌, ℕ, Bool, true, List, Option, is_some}
use Rattle.s3_types.specs.declared.request.Request.{Request}
use Rattle.s3_types.specs.declared.journal.Outcome.{Outcome}
use Rattle.s3_types.specs.declared.journal.Entry.{Entry}
use Rattle.retries.specs.Same.{same_request}
use Rattle.retries.specs.Operation.{Follows}
use Rattle.retries.specs.Retries.{Item, wants_of, fresh, step, has_worn, worn_in, Counting, spent_in}
use Rattle.retries.specs.Worn.{IsWorn, WornFirst, first_worn}

-- The test says of two requests whether they are equal.
pub record SameRequests : Type 0 where
  pub equal : (r q : Request) → same_request r q ≡ true → r ≡ q
  pub self : (r : Request) → same_request r r ≡ true

-- There is one right answer to which request wore out first, and it is the computed one.
pub record WornOnce : Type 0 where
  pub is : (retries : ℕ) (es : List Entry) → WornFirst retries es (first_worn retries es)
  pub only : (retries : ℕ) (es : List Entry) (a b : Option Request) → WornFirst retries es a → WornFirst retries es b → a ≡ b

-- An operation that receives replies, under retries: its counter finds the first request that wore out by the entries alone.
pub record CounterIsLiteral (M : Type 0) : Type 0 where
  pub first : (retries : ℕ) (asks : M → Option Request) (after : M → Item → M) (m : M) (es : List Entry)
      → Follows (wants_of asks) (step retries after) (fresh retries m) es
      → WornFirst retries es (worn_in retries after (fresh retries m) es)
  pub some : (retries : ℕ) (after : M → Item → M) (m : M) (es : List Entry)
      → has_worn retries after (fresh retries m) es ≡ is_some (worn_in retries after (fresh retries m) es)
  -- It wears out exactly if some request did.
  pub exactly : (retries : ℕ) (asks : M → Option Request) (after : M → Item → M) (m : M) (es : List Entry)
      → Follows (wants_of asks) (step retries after) (fresh retries m) es
      → (has_worn retries after (fresh retries m) es ≡ true → (r : Request) × IsWorn retries r es)
      × ((r : Request) → IsWorn retries r es → has_worn retries after (fresh retries m) es ≡ true)
  -- The same holds of every operation that counts one request at a time.
  pub counts : (retries : ℕ) (wants : M → Option Request) (tells : M → Outcome → M) (spare : M → ℕ) (holds : M → Bool)
      → Counting retries wants tells spare holds → (m : M) → holds m ≡ true → spare m ≡ retries → (es : List Entry)
      → Follows wants tells m es → WornFirst retries es (spent_in tells spare m es)
