-- The ends of operations, by their entries and by what the journal shows.
use Rattle.job_model.specs.JobScript.{Script}
use Rattle.job_model.specs.declared.ends.CommitEnd.{CommitEnd}
use Rattle.job_model.specs.declared.ends.EventEnd.{EventEnd}
use Rattle.job_model.specs.declared.ends.OpEnd.{OpEnd}
use Rattle.job_model.specs.declared.events.Event.{Event}
use Rattle.job_protocol.specs.JobCommits.{stage_of}
use Rattle.job_protocol.specs.Outputs.{Picks, same_path}
use Rattle.job_protocol.specs.Seen.{Seen, is_begun, is_marking}
use Rattle.job_spec.specs.States.{Doing, after_event, past, told}
use Rattle.job_spec.specs.Turns.{by_actor, since, until}
use Rattle.retries.specs.Worn.{WornFirst}
use Rattle.s3_types.specs.Moment.{is_unanswered}
use Rattle.s3_types.specs.declared.journal.Entry.{Entry}
use Rattle.s3_types.specs.declared.request.Actor.{Actor}
use Rattle.s3_types.specs.declared.request.Actor.TheVariants.{Driver}
use Rattle.s3_types.specs.declared.request.Request.{Request}
use Rattle.std.specs.List.{list_any}
use Rattle.std.specs.Prelude.{Bool, List, None, Option, Some, false, not, slice_get, take, true, ℕ, ◌&&◌, ◌+◌, ◌≡◌, ◌⊎◌}
use Rattle.job_model.specs.declared.ends.CommitEnd.TheVariants as commits

-- ---- an operation that ended

-- Holds if the operation `d` of the actor ended in event j + 1 with this end, and these are its entries.
pub record EndedIn (w : Script) (xs : List EventEnd) (journal : List Entry) (j : ℕ) (a : Actor) (d : Doing) (end : OpEnd)
    (entries : List Entry) : Type 0 where
  -- The event in which it ended, and that event's end.
  pub event : Event
  pub event_end : EventEnd
  pub is_event : slice_get w.events j ≡ Some event
  pub has_ended : slice_get xs j ≡ Some event_end
  -- Its place among the ends of the event.
  pub place : ℕ
  pub told_there : slice_get (told event event_end) place ≡ Some (record { actor = a; end = end })
  -- The operation that the actor had begun.
  pub doing : (after_event w (past w (take j xs)) event event_end).doing a ≡ Some d
  -- The operation's own entries.
  pub entries_are : entries ≡ since d.since (by_actor a (until (j + 1) journal))

-- ---- the driver's commit

-- The end if there is one, otherwise the other end.
abbrev pub end_or : Option CommitEnd → CommitEnd → CommitEnd
end_or (Some e) other = e
end_or None other = other

-- The resulting end: a missing task comes first, then the first request that ran out of retries, then a path that two tasks write, and
-- otherwise Committed.
abbrev pub commit_due : Script → Picks → Option ℕ → Option Request → CommitEnd
commit_due w picks (Some t) worn = commits.Missing t
commit_due w picks None (Some r) = commits.StoreFault (stage_of r)
commit_due w picks None None = end_or (same_path w picks) commits.Committed

-- True if the actor is the job's driver.
abbrev pub is_driver : Actor → Bool
is_driver Driver = true
is_driver _ = false

-- True if the driver's put of `_SUCCESS` was answered.
abbrev pub is_mark_answered : Script → List Entry → Bool
is_mark_answered w es = list_any (λ e. is_driver e.actor && (is_marking w e.request && not (is_unanswered e.outcome))) es

-- Holds if this end of the driver's commit is the resulting one, or says that memory ran out. The resulting end depends on the tasks that
-- were reported when the commit began, on its first request that ran out of retries, and on the chosen attempts. After the end Committed
-- the put of `_SUCCESS` was answered.
pub record CommitEnded (w : Script) (s : Seen) (missing : Option ℕ) (entries : List Entry) (e : CommitEnd) : Type 0 where
  -- Its first request that ran out of retries, if one did.
  pub worn : Option Request
  pub first : WornFirst w.retries entries worn
  -- Memory ran out, or it is the resulting end.
  pub due : (e ≡ commits.NoMemory) ⊎ (e ≡ commit_due w s.picks missing worn)
  -- If it is Committed, the put of `_SUCCESS` was answered.
  pub answered : e ≡ commits.Committed → is_mark_answered w entries ≡ true

-- ---- the driver's abort and clean

-- True if the driver's abort or clean, of event c, has begun: the driver has an entry in that event or a later one.
abbrev pub has_cleaned : Option ℕ → List Entry → Bool
has_cleaned c es = list_any (λ e. is_driver e.actor && is_begun c e.event) es
