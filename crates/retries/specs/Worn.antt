-- Which requests wore out, by the entries alone: `retries + 1` sends of them in a row got no answer.
use Rattle.std.specs.Prelude.{◌≡◌, ℕ, ◌+◌, ◌≤◌, nat_lt, Bool, true, false, cond, List, [], ◌∷◌, ◌++◌, slice_get, Option, Some, None}
use Rattle.s3_types.specs.declared.request.Request.{Request}
use Rattle.s3_types.specs.declared.journal.Outcome.{Outcome}
use Rattle.s3_types.specs.declared.journal.Outcome.TheVariants.{Answered}
use Rattle.s3_types.specs.declared.journal.Entry.{Entry}
use Rattle.retries.specs.Same.{same_request}

-- True if the send got an answer. SlowDown is none.
abbrev pub was_answered : Outcome → Bool
was_answered (Answered r) = true
was_answered _ = false

-- For each send of the request r, in order, whether it was answered.
abbrev pub answers : Request → List Entry → List Bool
answers r [] = []
answers r (e ∷ es) = cond (same_request r e.request) (was_answered e.outcome ∷ answers r es) (answers r es)

-- The request r wore out: somewhere among its sends, `retries + 1` in a row were not answered.
abbrev pub IsWorn : ℕ → Request → List Entry → Type 0
IsWorn retries r es = (k : ℕ) × ((i : ℕ) → i ≤ retries → slice_get (answers r es) (k + i) ≡ Some false)

-- No request wore out.
abbrev pub NoneWorn : ℕ → List Entry → Type 0
NoneWorn retries es = (r : Request) → IsWorn retries r es → ⊥

-- r is the first request that wore out: it did with one of its sends, and before that send none had.
pub record IsFirstWorn (retries : ℕ) (es : List Entry) (r : Request) : Type 0 where
  pub before : List Entry
  pub last : Entry
  pub later : List Entry
  pub parts : es ≡ before ++ last ∷ later
  pub is_of : last.request ≡ r
  pub worn : IsWorn retries r (before ++ last ∷ [])
  pub first : NoneWorn retries before

-- The first request of these entries that wore out; None if none did.
abbrev pub WornFirst : ℕ → List Entry → Option Request → Type 0
WornFirst retries es None = NoneWorn retries es
WornFirst retries es (Some r) = IsFirstWorn retries es r

-- ---- the same, computed

-- How many of the last answers are missing, after n others that are.
abbrev pub trail : ℕ → List Bool → ℕ
trail n [] = n
trail n (b ∷ bs) = trail (cond b 0 (n + 1)) bs

-- How many of the last sends of a request in a row got no answer.
abbrev pub streak : Request → List Entry → ℕ
streak r es = trail 0 (answers r es)

-- The first request that wears out among `es`, after the entries `done`.
abbrev pub first_worn_after : ℕ → List Entry → List Entry → Option Request
first_worn_after retries done [] = None
first_worn_after retries done (e ∷ es) = cond (nat_lt retries (streak e.request (done ++ e ∷ []))) (Some e.request)
    (first_worn_after retries (done ++ e ∷ []) es)

-- The first request of these entries that wore out, or None.
abbrev pub first_worn : ℕ → List Entry → Option Request
first_worn retries es = first_worn_after retries [] es
