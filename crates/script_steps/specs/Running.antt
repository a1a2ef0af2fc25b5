-- A run of allowed steps is one of the job's runs, of which the facts are known at every moment.
use Rattle.job_invariant.specs.Told.{known}
use Rattle.job_model.specs.Attempts.{Who, actor_of}
use Rattle.job_model.specs.Legal.{IsLegal}
use Rattle.job_model.specs.declared.ends.EventEnd.{EventEnd}
use Rattle.job_model.specs.declared.events.Event.{Event}
use Rattle.job_protocol.specs.Operations.{Operation, Running, Setting}
use Rattle.job_protocol.specs.Seen.{Times}
use Rattle.job_spec.specs.States.{is_new, is_refused, times}
use Rattle.script_steps.specs.Transitions.{Play, Reachable, knows_now}
use Rattle.protocol_runs.specs.Runs.{IsOpening, Runs, Stand, is_set}
use Rattle.s3_types.specs.Store.{Content}
use Rattle.s3_types.specs.declared.request.Actor.TheVariants.{Driver}
use Rattle.std.specs.Prelude.{List, None, Option, Some, false, true, ◌++◌, ◌∷◌, ◌≡◌}

-- These are the ends of a run that goes on from here. If an event is in progress, its end is the next one and is no refusal.
pub record Ahead (x : Play) (ends : List EventEnd) : Type 0 where
  pub rest : List EventEnd
  pub is : ends ≡ x.ends ++ rest
  pub going : (ev : Event) → x.now ≡ Some ev → (end : EventEnd) × (more : List EventEnd) × (rest ≡ end ∷ more) × (is_refused end ≡ false)

-- The operation that an actor began last, with its progress.
abbrev pub operation_of : Option Running → Option Operation
operation_of None = None
operation_of (Some m) = Some m.operation

-- What has happened is one of the job's runs, request by request.
pub record IsRun (g : Setting) (opening : Content) (x : Play) (k : Times) : Type 0 where
  pub stand : Stand
  pub runs : Runs g k opening x.journal stand
  pub cleans : stand.told.cleans_at ≡ k.clean
  pub driver : stand.driver ≡ operation_of (x.running Driver)
  pub attempts : (a : Who) → stand.attempts a ≡ operation_of (x.running (actor_of a))
  -- What each attempt knows, and what it knew when it sent last.
  pub knows : (a : Who) → knows_now g x (actor_of a) ≡ known stand.told a
  pub last : (a : Who) (m : Running) → x.running (actor_of a) ≡ Some m → m.known ≡ known stand.told a
  -- A driver that is not new any more has set the job up.
  pub set_up : is_new (x.live.state Driver).stage ≡ false → is_set stand.driver ≡ true

-- A run of allowed steps is one of the job's runs, request by request.
abbrev pub HappeningsRun : Type 0
HappeningsRun = (g : Setting) (opening : Content) (x : Play) → IsLegal g.script → IsOpening g opening → Reachable g opening x
    → (ends : List EventEnd) → Ahead x ends → IsRun g opening x (times g.script ends)
