-- A job and its store before any event.
use Rattle.job_actor.specs.declared.plan.Plan.TheVariants.{Task}
use Rattle.job_model.specs.JobScript.{Script}
use Rattle.job_model.specs.Known.{Known, nothing_known}
use Rattle.job_model.specs.Legal.{IsLegal}
use Rattle.job_model.specs.declared.ends.Pick.{Pick}
use Rattle.job_protocol.specs.AtWork.{task_of}
use Rattle.job_protocol.specs.Operations.{Running, Setting}
use Rattle.job_run.specs.Holds.{Quiet}
use Rattle.job_run.specs.declared.body.Body.{Body}
use Rattle.job_run.specs.declared.body.Shared.{Shared}
use Rattle.job_run.specs.declared.body.JobRun.{JobRun}
use Rattle.job_run.specs.declared.hands.Hand.{Hand}
use Rattle.job_run.specs.declared.hands.Hand.TheVariants.{Empty, Plan}
use Rattle.job_spec.specs.States.{nothing_past}
use Rattle.job_states.specs.Stands.{Stands}
use Rattle.s3_types.specs.Store.{Content, opening}
use Rattle.s3_types.specs.declared.request.Actor.{Actor}
use Rattle.s3_types.specs.declared.request.Request.{Request}
use Rattle.std.specs.Prelude.{List, None, Option, false, map, ℕ, [], ◌∷◌, ◌≡◌}

-- The hands of a script's attempts before any event: each has its plan.
abbrev pub planned : {W : Type 0} → Script → ℕ → List (Hand W)
planned w minimum = map (λ a. Plan (Task (task_of w minimum a.0 nothing_known))) w.attempts

-- No event of the job has happened.
pub record IsFirstSide {W : Type 0} (minimum : ℕ) (s : JobRun W) : Type 0 where
  pub legal : IsLegal s.script
  pub states : Stands s.script s.states nothing_past
  pub hands : s.hands.items ≡ Empty ∷ planned s.script minimum
  pub ends : s.ends.items ≡ []
  pub event : s.event ≡ None
  pub finished : s.finished.items ≡ []
  pub picks : s.picks ≡ []

-- Nothing was sent, and the sends get the script's fates.
pub record IsFirstShared (w : Script) (s : Shared) : Type 0 where
  pub store : s.store ≡ record { scene = opening s.opening; fates = w.fates; requests = 0; losses = 0 }
  pub journal : s.journal.entries ≡ []
  pub events : s.events ≡ 0

-- Nothing has happened of this script over a store with this content, and each event of the run belongs to the job.
pub record IsBegun {W : Type 0} (wants : W → Option Request) (is_of : Setting → Actor → W → Type 0) (running : Known → W → Running)
    (picks_of : W → Option (List Pick)) (w : Script) (c : Content) (b : Body W) : Type 0 where
  pub quiet : Quiet wants is_of running picks_of b
  pub script : b.side.script ≡ w
  pub opening : b.shared.opening ≡ c
  pub others : b.side.others.items ≡ []
  pub shares : b.side.shares ≡ false
  pub side : IsFirstSide c.minimum b.side
  pub shared : IsFirstShared b.side.script b.shared
