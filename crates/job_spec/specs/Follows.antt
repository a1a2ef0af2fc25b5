-- A run follows its events: each operation sends its next requests, and has the end that results from the outcomes.
use Rattle.job_model.specs.Known.{Known}
use Rattle.job_model.specs.declared.ends.ActorEnd.{ActorEnd}
use Rattle.job_model.specs.declared.ends.EventEnd.{EventEnd}
use Rattle.job_model.specs.declared.ends.EventEnd.TheVariants.{Refused}
use Rattle.job_model.specs.declared.ends.EventFault.{EventFault}
use Rattle.job_model.specs.declared.ends.OpEnd.{OpEnd}
use Rattle.job_model.specs.declared.events.Event.{Event}
use Rattle.job_protocol.specs.Knowledge.{knows}
use Rattle.job_protocol.specs.Operations.{Operation, Running, Setting, advance, over, start_of, wants, who}
use Rattle.job_spec.specs.States.{Doing, after_event, open_event, past, refusal, told}
use Rattle.job_spec.specs.Turns.{AllFrom, AllUpTo, IsRising, OpenTurns, Turns, before, by_actor, is_busy, is_wanting, of_event, own, since}
use Rattle.job_spec.specs.Turns.{until}
use Rattle.s3_types.specs.declared.journal.Entry.{Entry}
use Rattle.s3_types.specs.declared.request.Actor.{Actor}
use Rattle.std.specs.Prelude.{List, None, Option, Some, length, slice_get, take, true, ℕ, [], ◌+◌, ◌≡◌, ◌≤◌, ◌⊎◌}
use Rattle.retries.specs.Operation as sendings

-- ---- an operation and its entries

-- What an actor knew when it began this, from its own entries.
abbrev pub known_then : Setting → Actor → Doing → List Entry → Known
known_then g a d es = knows g.script (who a) (before d.since es)

-- The operation that an actor began, with what it knew then.
abbrev pub begun_as : Setting → Actor → Doing → List Entry → Option Operation
begun_as g a d es = start_of g a d.op d.reports (known_then g a d es)

-- An operation with what its actor knew when it began.
abbrev pub running : Setting → Actor → Doing → List Entry → Operation → Running
running g a d es op = record { operation = op; known = known_then g a d es }

-- Holds if the actor's entries since its operation began are the next requests of that operation.
abbrev pub FollowsFrom : Setting → Actor → Doing → List Entry → Option Operation → Type 0
FollowsFrom g a d es None = ⊥
FollowsFrom g a d es (Some op) = sendings.Follows (wants g a) (advance g a) (running g a d es op) (since d.since es)

-- Holds if the actor's entries `es`, since it began this, are the next requests of its operation.
abbrev pub OpFollows : Setting → Actor → Doing → List Entry → Type 0
OpFollows g a d es = FollowsFrom g a d es (begun_as g a d es)

-- The end of an operation after the actor's entries, or none.
abbrev pub over_from : Setting → Actor → Doing → List Entry → Option Operation → Option OpEnd
over_from g a d es None = None
over_from g a d es (Some op) = over (sendings.run (advance g a) (running g a d es op) (since d.since es)).operation

-- The end of the actor's operation after its entries, or none.
abbrev pub op_over : Setting → Actor → Doing → List Entry → Option OpEnd
op_over g a d es = over_from g a d es (begun_as g a d es)

-- ---- events

-- What holds of one event, by the ends before it and the journal up to its own end.
pub record Obeyed (g : Setting) (before_it : List EventEnd) (journal : List Entry) (ev : Event) (end : EventEnd) : Type 0 where
  -- It is refused exactly if the table refuses it.
  pub refused : (f : EventFault) → end ≡ Refused f → refusal (past g.script before_it).state ev ≡ Some f
  pub refuses : (f : EventFault) → refusal (past g.script before_it).state ev ≡ Some f → end ≡ Refused f
  -- A refused event sends nothing.
  pub silent : (f : EventFault) → end ≡ Refused f → of_event (length before_it + 1) journal ≡ []
  -- Its entries follow the turns.
  pub turns : refusal (past g.script before_it).state ev ≡ None
      → Turns g.script (past g.script before_it).state ev end (of_event (length before_it + 1) journal)
  -- Each operation sends its next requests.
  pub follow : (a : Actor) (d : Doing) → (after_event g.script (past g.script before_it) ev end).doing a ≡ Some d
      → OpFollows g a d (by_actor a journal)
  -- An actor that is busy afterwards has more to send.
  pub goes_on : (a : Actor) (d : Doing) → (after_event g.script (past g.script before_it) ev end).doing a ≡ Some d
      → is_busy ((after_event g.script (past g.script before_it) ev end).state a).life ≡ true → op_over g a d (by_actor a journal) ≡ None
  -- Each end is that of an operation, or says that memory ran out.
  pub over : (i : ℕ) (x : ActorEnd) → slice_get (told ev end) i ≡ Some x → (d : Doing)
      × ((after_event g.script (past g.script before_it) ev end).doing x.actor ≡ Some d)
      × ((is_wanting x.actor d.op x.end ≡ true) ⊎ (op_over g x.actor d (by_actor x.actor journal) ≡ Some x.end))

-- Holds if each event that has ended follows the rules.
abbrev pub AllObeyed : Setting → List EventEnd → List Entry → Type 0
AllObeyed g xs journal = (k : ℕ) (ev : Event) (end : EventEnd) → slice_get g.script.events k ≡ Some ev → slice_get xs k ≡ Some end
    → Obeyed g (take k xs) (until (k + 1) journal) ev end

-- What holds of the event that has begun and not ended, by the ends before it.
pub record Going (g : Setting) (xs : List EventEnd) (journal : List Entry) (ev : Event) : Type 0 where
  -- Each operation has sent its next requests so far.
  pub follow : (a : Actor) (d : Doing) → (open_event g.script (past g.script xs) ev).doing a ≡ Some d → OpFollows g a d (by_actor a journal)
  -- Its entries follow the turns, and it has none if it will be refused.
  pub turns : refusal (past g.script xs).state ev ≡ None → OpenTurns g.script (past g.script xs).state ev (of_event (length xs + 1) journal)
  pub silent : (f : EventFault) → refusal (past g.script xs).state ev ≡ Some f → of_event (length xs + 1) journal ≡ []

-- Holds if the event that has begun and not ended follows the rules so far.
abbrev pub IsUnended : Setting → List EventEnd → List Entry → Type 0
IsUnended g xs journal = (ev : Event) → slice_get g.script.events (length xs) ≡ Some ev → Going g xs journal ev

-- Holds if a journal and the ends of events fit a script.
pub record Plays (g : Setting) (xs : List EventEnd) (journal : List Entry) : Type 0 where
  -- Each event that has ended follows the rules.
  pub obeyed : AllObeyed g xs journal
  -- The event that has begun and not ended follows them.
  pub unended : IsUnended g xs journal
  -- The job has no entry outside its events, which are numbered from 1.
  pub numbered : AllFrom 1 (own journal)
  -- After the script's last event the job sends nothing.
  pub none : slice_get g.script.events (length xs) ≡ None → of_event (length xs + 1) journal ≡ []
  -- The numbers of the entries' events never fall, and none is beyond the event that goes on.
  pub rising : IsRising journal
  pub past : AllUpTo (length xs + 1) journal
  -- Each end belongs to an event of the script.
  pub within : length xs ≤ length g.script.events
