-- A machine under its retries, as an operation that receives replies, and what a send means for it.
use Rattle.machine.specs.declared.retrying.Retrying.{Retrying}
use Rattle.machine.specs.declared.retrying.Turn.{Turn}
use Rattle.machine.specs.declared.retrying.Turn.TheVariants.{Again, Moved, WornOut as Worn}
use Rattle.retries.specs.Retries.{Item, OutOfMemory, Retried, wears}
use Rattle.retries.specs.Worn.{was_answered}
use Rattle.s3_types.specs.declared.journal.Entry.{Entry}
use Rattle.s3_types.specs.declared.journal.Outcome.{Outcome}
use Rattle.s3_types.specs.declared.journal.Outcome.TheVariants.{Answered}
use Rattle.s3_types.specs.declared.reply.Reply.{Reply}
use Rattle.s3_types.specs.declared.request.Actor.{Actor}
use Rattle.std.specs.Prelude.{Bool, List, false, true, ℕ, [], ◌∷◌, ◌≡◌}

-- The machine's operation with its count of retries.
abbrev pub retried : {M : Type 0} → Retrying M → Retried M
retried t = record { operation = t.machine; spare = t.spare; repeated = t.repeated }

-- After memory ran out: the machine has received that, and everything else is as before.
abbrev pub broken : {M : Type 0} → (M → Item → M) → Retried M → Retried M
broken after t = record { operation = after t.operation OutOfMemory; spare = t.spare; repeated = t.repeated }

-- All entries are of this actor and this event.
abbrev pub AreBy : Actor → ℕ → List Entry → Type 0
AreBy actor event [] = Unit {0}
AreBy actor event (e ∷ es) = (e.actor ≡ actor) × (e.event ≡ event) × AreBy actor event es

-- What a send means for the machine, from whether it was answered and whether it was the last.
abbrev pub turn_if : Bool → Bool → Turn
turn_if true worn = Moved
turn_if false true = Worn
turn_if false false = Again

-- What a send means for the machine: it was answered, it was the last of its request, or it is made again.
abbrev pub turn_of : {M : Type 0} → Retried M → Outcome → Turn
turn_of t o = turn_if (was_answered o) (wears t o)

-- True if a request exhausted its retries with this send.
abbrev pub tells_worn : Turn → Bool
tells_worn Worn = true
tells_worn _ = false

-- If a reply was given, it fits.
abbrev pub FitsOutcome : {M : Type 0} → (M → Reply → Bool → Type 0) → Retrying M → Outcome → Type 0
FitsOutcome fits t (Answered r) = fits t.machine r t.repeated
FitsOutcome fits t _ = Unit {0}
