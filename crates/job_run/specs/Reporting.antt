-- What a driver receives of its tasks as it begins an operation.
use Rattle.job_actor.specs.Reports.{IsReport}
use Rattle.job_actor.specs.declared.reported.Reported.{Reported}
use Rattle.job_model.specs.Known.{Known}
use Rattle.job_model.specs.declared.events.Op.{Op}
use Rattle.job_protocol.specs.Operations.{Reports, start_of}
use Rattle.job_run.specs.Holds.{setting_of}
use Rattle.job_run.specs.declared.body.Body.{Body}
use Rattle.job_spec.specs.States.{Past, reports}
use Rattle.job_states.specs.Stands.{Stands}
use Rattle.s3_types.specs.declared.request.Actor.{Actor}
use Rattle.std.specs.Prelude.{is_some, ◌≡◌}

-- The report lets the actor begin the operation in the same state as the reports of the events so far.
pub record IsTold {W : Type 0} (b : Body W) (a : Actor) (op : Op) (x : Reported) : Type 0 where
  pub tells : Reports
  pub is : IsReport (setting_of b) a op x tells
  pub same : (p : Past) (k : Known) → Stands b.side.script b.side.states p
      → start_of (setting_of b) a op tells k ≡ start_of (setting_of b) a op (reports b.side.script p.reported) k

-- The report has a list of partitions exactly if another job shares the destination.
pub record IsUntold {W : Type 0} (b : Body W) (x : Reported) : Type 0 where
  pub shares : is_some x.partitions ≡ b.side.shares
