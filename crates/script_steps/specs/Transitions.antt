-- What happens in a run of a job, one step after another, and the state that each step leads to. Between events strangers may send what
-- leaves the job's own alone.
use Rattle.job_invariant.specs.Foreign.{IsForeign}
use Rattle.job_invariant.specs.Told.{strange_entry}
use Rattle.job_model.specs.Attempts.{actor_of}
use Rattle.job_model.specs.Known.{Known}
use Rattle.job_model.specs.declared.ends.ActorEnd.{ActorEnd}
use Rattle.job_model.specs.declared.ends.EventEnd.{EventEnd}
use Rattle.job_model.specs.declared.ends.EventEnd.TheVariants.{Refused}
use Rattle.job_model.specs.declared.ends.EventFault.{EventFault}
use Rattle.job_model.specs.declared.events.Event.{Event}
use Rattle.job_model.specs.declared.events.Event.TheVariants.{Do, Start}
use Rattle.job_model.specs.declared.events.Op.{Op}
use Rattle.job_model.specs.declared.states.Life.TheVariants.{Busy}
use Rattle.job_protocol.specs.Knowledge.{knows}
use Rattle.job_protocol.specs.Operations.{Operation, Running, Setting, advance, over, start_of, wants, who}
use Rattle.job_spec.specs.States.{Doing, Past, count, end_op, nothing_past, open_event, put, refusal, reports, told}
use Rattle.job_spec.specs.Turns.{Turns, by_actor, is_wanting, of_event}
use Rattle.s3_types.specs.Answer.{answer}
use Rattle.s3_types.specs.Moment.{IsHonestOutcome, moment}
use Rattle.s3_types.specs.Store.{Content, Scene}
use Rattle.s3_types.specs.declared.journal.Entry.{Entry}
use Rattle.s3_types.specs.declared.journal.Outcome.{Outcome}
use Rattle.s3_types.specs.declared.request.Actor.{Actor}
use Rattle.s3_types.specs.declared.request.Request.{Request}
use Rattle.std.specs.Prelude.{List, None, Option, Some, length, slice_get, true, [], ◌++◌, ◌+◌, ◌^◌, ◌∷◌, ◌≡◌, ◌≤◌, ◌⊎◌}

-- ---- the state of a run

-- The state of a run.
pub record Play : Type 0 where
  pub journal : List Entry
  pub ends : List EventEnd
  -- The event in progress.
  pub now : Option Event
  -- The states of the actors before that event, and as they are now.
  pub past : Past
  pub live : Past
  -- The operations that ended in that event.
  pub finished : List ActorEnd
  -- The operation that each actor began last, as far as its entries took it.
  pub running : Actor → Option Running

-- A run before its first event.
abbrev pub nothing_played : Play
nothing_played = record {
  journal = [];
  ends = [];
  now = None;
  past = nothing_past;
  live = nothing_past;
  finished = [];
  running = λ a. None;
}

-- The store and the cluster in this state.
abbrev pub scene_of : Content → Play → Scene
scene_of opening x = moment opening x.journal (length x.journal)

-- What an actor knows in this state, from its own entries.
abbrev pub knows_now : Setting → Play → Actor → Known
knows_now g x a = knows g.script (who a) (by_actor a x.journal)

-- ---- what may happen

-- One step of a run.
pub data Transition : Type 0 where
  -- The next event is refused.
  Refuses : (fault : EventFault) → Transition
  -- The next event begins.
  Opens : (event : Event) → Transition
  -- An actor sends a request.
  Sends : (entry : Entry) → Transition
  -- An actor's operation ends.
  Finishes : (ended : ActorEnd) → Transition
  -- The event is over.
  Closes : (end : EventEnd) → Transition
  -- A stranger sends a request.
  Strays : (request : Request) (outcome : Outcome) → Transition

-- ---- where a step leads

-- An operation that begins, with what its actor knows then.
abbrev pub begun : Option Operation → Known → Option Running
begun None k = None
begun (Some op) k = Some (record { operation = op; known = k })

-- The last operation of each actor, after this one begins an operation.
abbrev pub begin_running : Setting → Play → Actor → Op → Actor → Option Running
begin_running g x a op = put x.running a (begun (start_of g a op (reports g.script x.past.reported) (knows_now g x a)) (knows_now g x a))

-- The last operation of each actor, after an event begins.
abbrev pub open_running : Setting → Play → Event → Actor → Option Running
open_running g x (Do a op) = begin_running g x a op
open_running g x (Start a op) = begin_running g x a op
open_running g x _ = x.running

-- An operation after the outcome of its send.
abbrev pub hear : Setting → Actor → Option Running → Entry → Option Running
hear g a None e = None
hear g a (Some m) e = Some (advance g a m e.outcome)

-- The state after a step.
abbrev pub happen : Setting → Play → Transition → Play
happen g x (Refuses f) = record {
  journal = x.journal;
  ends = x.ends ++ Refused f ∷ [];
  now = None;
  past = count x.past;
  live = count
      x.past;
  finished = [];
  running = x.running;
}
happen g x (Opens ev) = record {
  journal = x.journal;
  ends = x.ends;
  now = Some ev;
  past = x.past;
  live = open_event g.script x.past ev;
  finished = [];
  running = open_running g x ev;
}
happen g x (Sends e) = record {
  journal = x.journal ++ e ∷ [];
  ends = x.ends;
  now = x.now;
  past = x.past;
  live = x.live;
  finished =
      x.finished;
  running = put x.running e.actor (hear g e.actor (x.running e.actor) e);
}
happen g x (Finishes y) = record {
  journal = x.journal;
  ends = x.ends;
  now = x.now;
  past = x.past;
  live = end_op x.live y;
  finished =
      x.finished ++ y ∷ [];
  running = x.running;
}
happen g x (Closes end) = record {
  journal = x.journal;
  ends = x.ends ++ end ∷ [];
  now = None;
  past = count x.live;
  live = count x.live;
  finished = [];
  running = x.running;
}
happen g x (Strays r o) = record {
  journal = x.journal ++ strange_entry (length x.ends) r o ∷ [];
  ends = x.ends;
  now = x.now;
  past = x.past;
  live = x.live;
  finished = x.finished;
  running = x.running;
}

-- ---- when a step may happen

-- No event is in progress, this one is next, and it is refused with this fault, or not refused.
pub record MayOpen (g : Setting) (x : Play) (ev : Event) (fault : Option EventFault) : Type 0 where
  pub idle : x.now ≡ None
  pub next : slice_get g.script.events (length x.ends) ≡ Some ev
  pub refusal_is : refusal x.past.state ev ≡ fault

-- During an event a busy actor sends the request that its operation asks, and S3 may give the outcome.
pub record MaySend (g : Setting) (opening : Content) (x : Play) (e : Entry) : Type 0 where
  pub event : Event
  pub during : x.now ≡ Some event
  pub number : e.event ≡ length x.ends + 1
  pub busy : (x.live.state e.actor).life ≡ Busy
  pub at : Running
  pub is_at : x.running e.actor ≡ Some at
  pub asked : wants g e.actor at ≡ Some e.request
  pub honest : IsHonestOutcome e.outcome (answer (scene_of opening x) e.request)
  -- The store has drawn fewer ids than there are.
  pub few : (scene_of opening x).content.next ≤ 2 ^ 64

-- A busy actor's operation ends during an event: with its own end, or because memory ran out.
pub record MayFinish (x : Play) (y : ActorEnd) : Type 0 where
  pub event : Event
  pub during : x.now ≡ Some event
  pub busy : (x.live.state y.actor).life ≡ Busy
  pub doing : Doing
  pub does : x.live.doing y.actor ≡ Some doing
  pub end : (is_wanting y.actor doing.op y.end ≡ true) ⊎ ((m : Running) × (x.running y.actor ≡ Some m) × (over m.operation ≡ Some y.end))

-- The event in progress may end so: its entries follow its turns, its end names the operations that ended in it, and each busy actor has
-- more to send.
pub record MayClose (g : Setting) (x : Play) (end : EventEnd) : Type 0 where
  pub event : Event
  pub during : x.now ≡ Some event
  pub told_is : told event end ≡ x.finished
  pub turns : Turns g.script x.past.state event end (of_event (length x.ends + 1) x.journal)
  pub going : (a : Actor) (m : Running) → (x.live.state a).life ≡ Busy → x.running a ≡ Some m → over m.operation ≡ None

-- Between events a stranger sends a request that is foreign to the job, by what its attempts know then, and S3 may give the outcome.
pub record MayStray (g : Setting) (opening : Content) (x : Play) (r : Request) (o : Outcome) : Type 0 where
  pub idle : x.now ≡ None
  pub foreign : IsForeign g.script (λ a. (knows_now g x (actor_of a)).drawn) r
  pub honest : IsHonestOutcome o (answer (scene_of opening x) r)

-- The step may happen in this state.
abbrev pub Enabled : Setting → Content → Play → Transition → Type 0
Enabled g opening x (Refuses f) = (ev : Event) × MayOpen g x ev (Some f)
Enabled g opening x (Opens ev) = MayOpen g x ev None
Enabled g opening x (Sends e) = MaySend g opening x e
Enabled g opening x (Finishes y) = MayFinish x y
Enabled g opening x (Closes end) = MayClose g x end
Enabled g opening x (Strays r o) = MayStray g opening x r o

-- The states that a run can reach: each step was allowed when it happened.
pub data Reachable (g : Setting) (opening : Content) : Play → Type 0 where
  nothing_happened : Reachable g opening nothing_played
  happens : (x : Play) (h : Transition) → Reachable g opening x → Enabled g opening x h → Reachable g opening (happen g x h)
