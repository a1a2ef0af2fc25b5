-- The journal of a run as one job reads it: its own events have its own numbers, and the entries of others have the actor `Shell`.
use Rattle.s3_types.specs.declared.journal.Entry.{Entry}
use Rattle.s3_types.specs.declared.request.Actor.{Actor}
use Rattle.s3_types.specs.declared.request.Actor.TheVariants.{Shell}
use Rattle.std.specs.Prelude.{Bool, List, cond, map, suc, zero, ℕ, ◌+◌}

-- The number of events from 1 to n that are the job's.
abbrev pub number_in : (ℕ → Bool) → ℕ → ℕ
number_in mine zero = 0
number_in mine (suc n) = cond (mine (suc n)) (number_in mine n + 1) (number_in mine n)

-- The actor of an entry as the job reads it: Shell, if the event is not the job's.
abbrev pub actor_in : (ℕ → Bool) → Entry → Actor
actor_in mine e = cond (mine e.event) e.actor Shell

-- An entry as the job reads it.
abbrev pub entry_in : (ℕ → Bool) → Entry → Entry
entry_in mine e = record { event = number_in mine e.event; actor = actor_in mine e; request = e.request; outcome = e.outcome }

-- The journal as the job reads it; `mine` tells which events are its own.
abbrev pub in_eyes : (ℕ → Bool) → List Entry → List Entry
in_eyes mine es = map (entry_in mine) es
