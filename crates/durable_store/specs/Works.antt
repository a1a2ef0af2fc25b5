-- The work that a command leaves to be done on a shelf.
use Rattle.exit_status.specs.declared.statuses.Status.{Status}
use Rattle.exit_status.specs.declared.statuses.Status.TheVariants.{BadImage, Done, Refused}
use Rattle.s3_types.specs.Store.{Content}
use Rattle.s3_types.specs.declared.journal.Entry.{Entry}
use Rattle.std.specs.List.{AllByRecursion}
use Rattle.std.specs.Prelude.{List, Option, ℕ, ◌≡◌}

-- The work: a text to say, or a store to save.
pub data Work : Type 0 where
  -- to end with a status, and a text or the status's own, after these requests, which change nothing
  Says : (due : Status) (text : Option (List ℕ)) (sent : List Entry) → Work
  -- to save this store, then what the requests changed in it, and to end with Done and a text
  Saves : (opening : Content) (text : List ℕ) (sent : List Entry) → Work

-- Holds for the statuses of work that only says something.
abbrev pub IsSaid : Status → Type 0
IsSaid Done = Unit {0}
IsSaid Refused = Unit {0}
IsSaid BadImage = Unit {0}
IsSaid _ = ⊥

-- Holds if a text is said with one of these statuses, or if all requests of a save were sent in event 0.
abbrev pub IsPlain : Work → Type 0
IsPlain (Says due text es) = IsSaid due
IsPlain (Saves c text es) = AllByRecursion (λ e. e.event ≡ 0) es
