-- A job that shares its store with no other job.
use Rattle.job_model.specs.Known.{Known}
use Rattle.job_model.specs.declared.ends.Pick.{Pick}
use Rattle.job_protocol.specs.Operations.{Running, Setting}
use Rattle.job_run.specs.Holds.{Quiet}
use Rattle.job_run.specs.declared.body.Body.{Body}
use Rattle.job_spec.specs.Entries.{AreOwn}
use Rattle.s3_types.specs.Fates.{fate_at}
use Rattle.s3_types.specs.declared.request.Actor.{Actor}
use Rattle.s3_types.specs.declared.request.Request.{Request}
use Rattle.std.specs.Prelude.{List, Option, false, ℕ, [], ◌≡◌}

-- All events and all entries are the job's own, no other job shares the destination, and each send has the fate that the script names for
-- it.
pub record IsAlone {W : Type 0} (b : Body W) : Type 0 where
  pub others : b.side.others.items ≡ []
  pub shares : b.side.shares ≡ false
  pub own : AreOwn b.shared.journal.entries
  pub fates : (n : ℕ) → fate_at b.shared.store.fates n ≡ fate_at b.side.script.fates n

-- What a world keeps between events.
pub record Rests {W : Type 0} (wants : W → Option Request) (is_of : Setting → Actor → W → Type 0) (running : Known → W → Running)
    (picks_of : W → Option (List Pick)) (b : Body W) : Type 0 where
  pub quiet : Quiet wants is_of running picks_of b
  pub alone : IsAlone b
