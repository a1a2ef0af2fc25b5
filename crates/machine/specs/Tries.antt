-- The sends of a run, request by request, as its journal shows them.
use Rattle.machine.specs.declared.driving.DriveStop.{DriveStop}
use Rattle.machine.specs.declared.driving.DriveStop.TheVariants.{NoMemory, StoreFault}
use Rattle.retries.specs.Worn.{WornFirst}
use Rattle.s3_types.specs.Moment.{is_unanswered}
use Rattle.s3_types.specs.declared.journal.Entry.{Entry}
use Rattle.s3_types.specs.declared.request.Request.{Request}
use Rattle.std.specs.Prelude.{Bool, Err, List, None, Ok, Option, Result, Some, false, length, true, ℕ, [], ◌++◌, ◌+◌, ◌||◌, ◌∷◌, ◌≡◌, ◌≤◌}

-- These are sends of the request r, and none of them got an answer.
abbrev pub AreUnanswered : Request → List Entry → Type 0
AreUnanswered r [] = Unit {0}
AreUnanswered r (e ∷ es) = (e.request ≡ r) × (is_unanswered e.outcome ≡ true) × AreUnanswered r es

-- The sends of one request: those without an answer, and the one with an answer. Without the latter, the request exhausted its retries.
pub record Try : Type 0 where
  pub request : Request
  pub unanswered : List Entry
  pub answered : Option Entry

-- At most `most` sends got no answer before one did; or `most + 1` got none, and the request exhausted its retries.
abbrev pub IsClosed : ℕ → Request → ℕ → Option Entry → Type 0
IsClosed most r lost (Some e) = (e.request ≡ r) × (is_unanswered e.outcome ≡ false) × (lost ≤ most)
IsClosed most r lost None = lost ≡ most + 1

-- The try t may lose `most` sends before its request exhausts its retries.
pub record IsTry (most : ℕ) (t : Try) : Type 0 where
  pub lost : AreUnanswered t.request t.unanswered
  pub closed : IsClosed most t.request (length t.unanswered) t.answered

-- Tries, one after another: the first may lose `spare` sends, each other one `retries`.
abbrev pub AreTries : ℕ → ℕ → List Try → Type 0
AreTries retries spare [] = Unit {0}
AreTries retries spare (t ∷ ts) = IsTry spare t × AreTries retries retries ts

-- How many sends the try after all these may lose.
abbrev pub spare_after : ℕ → ℕ → List Try → ℕ
spare_after retries spare [] = spare
spare_after retries spare (t ∷ ts) = retries

-- The send with the answer, if there is one.
abbrev pub answer_in : Option Entry → List Entry
answer_in (Some e) = e ∷ []
answer_in None = []

-- All sends of these tries.
abbrev pub sendings_of : List Try → List Entry
sendings_of [] = []
sendings_of (t ∷ ts) = (t.unanswered ++ answer_in t.answered) ++ sendings_of ts

-- True if there was no answer.
abbrev pub is_worn : Option Entry → Bool
is_worn (Some e) = false
is_worn None = true

-- True if some request exhausted its retries.
abbrev pub some_worn : List Try → Bool
some_worn [] = false
some_worn (t ∷ ts) = is_worn t.answered || some_worn ts

-- A try that was broken off: at most `most` sends of one request, and none of them got an answer.
abbrev pub IsBrokenOff : ℕ → List Entry → Type 0
IsBrokenOff most [] = Unit {0}
IsBrokenOff most (e ∷ es) = AreUnanswered e.request (e ∷ es) × (length (e ∷ es) ≤ most)

-- The result is StoreFault if a request exhausted its retries, and else Ok. Only a run that ran out of memory may end in a try that was
-- broken off.
abbrev pub IsToldBy : {T : Type 0} → Bool → List Entry → Result T DriveStop → Type 0
IsToldBy worn rest (Ok x) = (worn ≡ false) × (rest ≡ [])
IsToldBy worn rest (Err StoreFault) = (worn ≡ true) × (rest ≡ [])
IsToldBy worn rest (Err NoMemory) = Unit {0}

-- `many` entries in a row are sends of one request, and none of them got an answer.
pub record HasUnanswered (many : ℕ) (part : List Entry) : Type 0 where
  pub request : Request
  pub before : List Entry
  pub these : List Entry
  pub behind : List Entry
  pub is : part ≡ before ++ (these ++ behind)
  pub count : length these ≡ many
  pub lost : AreUnanswered request these

-- The result is StoreFault exactly if p holds, unless memory ran out.
abbrev pub IsFaultWhere : {T : Type 0} → Type 0 → Result T DriveStop → Type 0
IsFaultWhere p (Ok x) = p → ⊥
IsFaultWhere p (Err StoreFault) = p
IsFaultWhere p (Err NoMemory) = Unit {0}

-- The entries of a run are tries, one after another, and then perhaps one that was broken off.
pub record Tried {T : Type 0} (retries spare : ℕ) (part : List Entry) (result : Result T DriveStop) : Type 0 where
  pub tries : List Try
  pub rest : List Entry
  pub entries : part ≡ sendings_of tries ++ rest
  pub each : AreTries retries spare tries
  pub broken_off : IsBrokenOff (spare_after retries spare tries) rest
  pub told : IsToldBy (some_worn tries) rest result
  -- If the first request was not sent before, the entries alone decide about StoreFault.
  pub fault : spare ≡ retries → IsFaultWhere (HasUnanswered (retries + 1) part) result

-- The result is StoreFault exactly if some request exhausted its retries by these entries alone, unless memory ran out.
abbrev pub IsFaultBy : {T : Type 0} → ℕ → List Entry → Result T DriveStop → Type 0
IsFaultBy retries part (Ok x) = WornFirst retries part None
IsFaultBy retries part (Err StoreFault) = (r : Request) × WornFirst retries part (Some r)
IsFaultBy retries part (Err NoMemory) = Unit {0}
