-- An operation that receives replies, under retries: a request is sent again until it is answered or all its sends are used up (Hadoop,
-- S3A: fs.s3a.retry.limit; Amazon S3, error responses: SlowDown).
use Rattle.std.specs.Prelude.{◌≡◌, ℕ, zero, suc, ◌&&◌, ◌||◌, not, Bool, true, false, cond, List, [], ◌∷◌, Option, Some, None}
use Rattle.s3_types.specs.declared.request.Request.{Request}
use Rattle.s3_types.specs.declared.reply.Reply.{Reply}
use Rattle.s3_types.specs.declared.journal.Outcome.{Outcome}
use Rattle.s3_types.specs.declared.journal.Outcome.TheVariants.{Answered, Slow}
use Rattle.s3_types.specs.declared.journal.Entry.{Entry}
use Rattle.retries.specs.Worn.{was_answered}

-- What an operation receives for its present request.
pub data Item : Type 0 where
  -- The reply, and whether an earlier send was lost.
  Got : (reply : Reply) → (repeated : Bool) → Item
  -- No send got an answer, and the retries are exhausted.
  WornOut : Item
  -- Memory ran out.
  OutOfMemory : Item

-- An operation, how many times its present request may still be sent again, and whether an earlier send of it was lost.
pub record Retried (M : Type 0) : Type 0 where
  pub operation : M
  pub spare : ℕ
  pub repeated : Bool

-- The operation before its present request was sent.
abbrev pub fresh : {M : Type 0} → ℕ → M → Retried M
fresh retries m = record { operation = m; spare = retries; repeated = false }

-- The present request; it stays the same when it is sent again.
abbrev pub wants_of : {M : Type 0} → (M → Option Request) → Retried M → Option Request
wants_of asks t = asks t.operation

-- The operation after a send without an answer, with this number of sends to spare.
abbrev pub unanswered_by : {M : Type 0} → ℕ → (M → Item → M) → M → Bool → ℕ → Retried M
unanswered_by retries after m repeated zero = fresh retries (after m WornOut)
unanswered_by retries after m repeated (suc n) = record { operation = m; spare = n; repeated = repeated }

-- The operation after a send without an answer: the request is sent again, or wears out if no send is to spare.
abbrev pub unanswered : {M : Type 0} → ℕ → (M → Item → M) → Retried M → Bool → Retried M
unanswered retries after t repeated = unanswered_by retries after t.operation repeated t.spare

-- The operation after the outcome of a send. SlowDown is no answer, but a later send after it does not count as repeated.
abbrev pub step : {M : Type 0} → ℕ → (M → Item → M) → Retried M → Outcome → Retried M
step retries after t (Answered r) = fresh retries (after t.operation (Got r t.repeated))
step retries after t Slow = unanswered retries after t t.repeated
step retries after t _ = unanswered retries after t true

-- True if the number is zero.
abbrev pub is_zero : ℕ → Bool
is_zero zero = true
is_zero (suc n) = false

-- True if this send was the last of its request and got no answer.
abbrev pub wears : {M : Type 0} → Retried M → Outcome → Bool
wears t (Answered r) = false
wears t _ = is_zero t.spare

-- True if some request wore out.
abbrev pub has_worn : {M : Type 0} → ℕ → (M → Item → M) → Retried M → List Entry → Bool
has_worn retries after t [] = false
has_worn retries after t (e ∷ es) = wears t e.outcome || has_worn retries after (step retries after t e.outcome) es

-- The first request that wore out, or None.
abbrev pub worn_in : {M : Type 0} → ℕ → (M → Item → M) → Retried M → List Entry → Option Request
worn_in retries after t [] = None
worn_in retries after t (e ∷ es) = cond (wears t e.outcome) (Some e.request) (worn_in retries after (step retries after t e.outcome) es)

-- ---- the same for any operation that counts the sends of one request at a time

-- An operation counts so as long as `holds` is true of it. After an answer all sends are to spare. After a send without an answer, if some
-- were to spare, there is one less, and the next request is the same.
pub record Counting {M : Type 0} (retries : ℕ) (wants : M → Option Request) (tells : M → Outcome → M) (spare : M → ℕ) (holds : M → Bool) :
    Type 0 where
  pub kept : (m : M) (o : Outcome) → holds m ≡ true → holds (tells m o) ≡ true
  pub answered : (m : M) (o : Outcome) → holds m ≡ true → was_answered o ≡ true → spare (tells m o) ≡ retries
  pub again : (m : M) (o : Outcome) (n : ℕ) → holds m ≡ true → was_answered o ≡ false → spare m ≡ suc n → (spare (tells m o) ≡ n)
      × (wants (tells m o) ≡ wants m)

-- The first request that got no answer when no send was to spare, or None.
abbrev pub spent_in : {M : Type 0} → (M → Outcome → M) → (M → ℕ) → M → List Entry → Option Request
spent_in tells spare m [] = None
spent_in tells spare m (e ∷ es) = cond (is_zero (spare m) && not (was_answered e.outcome)) (Some e.request)
    (spent_in tells spare (tells m e.outcome) es)
