-- The events of a job: before, during and after each.
use Rattle.job_model.specs.Known.{Known}
use Rattle.job_model.specs.declared.ends.EventEnd.{EventEnd}
use Rattle.job_model.specs.declared.ends.Pick.{Pick}
use Rattle.job_model.specs.declared.events.Event.{Event}
use Rattle.job_protocol.specs.Knowledge.{knows}
use Rattle.job_protocol.specs.Operations.{who}
use Rattle.job_run.specs.Holds.{AreOf, Stays, seen_by}
use Rattle.job_run.specs.declared.body.Body.{Body}
use Rattle.job_run.specs.declared.hands.Hand.{Hand}
use Rattle.job_run.specs.declared.hands.Hand.TheVariants.{At}
use Rattle.job_spec.specs.Turns.{by_actor}
use Rattle.s3_types.specs.declared.journal.Entry.{Entry}
use Rattle.s3_types.specs.declared.request.Actor.{Actor}
use Rattle.std.specs.Prelude.{List, Option, Some, length, slice_get, unwrap_or, [], ◌++◌, ◌+◌, ◌∷◌, ◌≡◌}

-- The event is the script's next one.
abbrev pub Next : {W : Type 0} → Body W → Event → Type 0
Next b event = slice_get b.side.script.events (length b.side.ends.items) ≡ Some event

-- The script's next event has its end.
pub record Grown {W : Type 0} (b c : Body W) : Type 0 where
  pub stays : Stays b c
  pub end : EventEnd
  pub ends : c.side.ends.items ≡ b.side.ends.items ++ end ∷ []
  pub events : c.shared.events ≡ b.shared.events + 1
  -- Entries are only added, all of this event.
  pub more : (part : List Entry) × (c.shared.journal.entries ≡ b.shared.journal.entries ++ part) × AreOf (b.shared.events + 1) part

-- Nothing but spare room has changed.
pub record IsAsBefore {W : Type 0} (b c : Body W) : Type 0 where
  pub shared : c.shared ≡ b.shared
  pub script : c.side.script ≡ b.side.script
  pub others : c.side.others ≡ b.side.others
  pub shares : c.side.shares ≡ b.side.shares
  pub ends : c.side.ends.items ≡ b.side.ends.items
  pub hands : c.side.hands ≡ b.side.hands
  pub picks : c.side.picks ≡ b.side.picks

-- ---- kinds of events

-- ---- an event begins

-- The picks of the operation in hand, or those put by earlier if it has none.
abbrev pub picks_in : {W : Type 0} → (W → Option (List Pick)) → List Pick → Option (Hand W) → List Pick
picks_in picks_of ps (Some (At m)) = unwrap_or (picks_of m) ps
picks_in picks_of ps _ = ps

-- What an actor knows from its own entries.
abbrev pub knows_of : {W : Type 0} → Body W → Actor → Known
knows_of b a = knows b.side.script (who a) (by_actor a (seen_by b))

-- ---- an event ends
