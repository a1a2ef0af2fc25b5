-- An operation as it sends: its next request, or none, and where the outcome of each send leads it.
use Rattle.std.specs.Prelude.{◌≡◌, List, [], ◌∷◌, Option, Some}
use Rattle.s3_types.specs.declared.request.Request.{Request}
use Rattle.s3_types.specs.declared.journal.Outcome.{Outcome}
use Rattle.s3_types.specs.declared.journal.Entry.{Entry}

-- The operation after these sends.
abbrev pub run : {M : Type 0} → (M → Outcome → M) → M → List Entry → M
run tells m [] = m
run tells m (e ∷ es) = run tells (tells m e.outcome) es

-- Each send is of the request that the operation has next at that point.
abbrev pub Follows : {M : Type 0} → (M → Option Request) → (M → Outcome → M) → M → List Entry → Type 0
Follows wants tells m [] = Unit {0}
Follows wants tells m (e ∷ es) = (wants m ≡ Some e.request) × Follows wants tells (tells m e.outcome) es
