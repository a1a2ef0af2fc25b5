-- An event of another job, as this job meets it.
use Rattle.job_invariant.specs.Foreign.{IsForeign}
use Rattle.job_model.specs.Attempts.{Who, actor_of}
use Rattle.job_model.specs.JobScript.{Script}
use Rattle.job_model.specs.Known.{Drawn, Known}
use Rattle.job_model.specs.declared.ends.Pick.{Pick}
use Rattle.job_protocol.specs.Operations.{Running, Setting}
use Rattle.job_run.specs.Events.{knows_of}
use Rattle.job_run.specs.Holds.{Quiet, is_mine}
use Rattle.job_run.specs.declared.body.Body.{Body}
use Rattle.s3_types.specs.Answer.{answer}
use Rattle.s3_types.specs.Fates.{fate_at}
use Rattle.s3_types.specs.Foretold.{AreForetold}
use Rattle.s3_types.specs.Moment.{IsHonestOutcome, after_all, effect}
use Rattle.s3_types.specs.Store.{Scene}
use Rattle.s3_types.specs.declared.journal.Entry.{Entry}
use Rattle.s3_types.specs.declared.request.Actor.{Actor}
use Rattle.s3_types.specs.declared.request.Request.{Request}
use Rattle.std.specs.Prelude.{List, Option, Some, false, length, ℕ, [], ◌++◌, ◌+◌, ◌^◌, ◌∷◌, ◌≡◌, ◌≤◌}

-- The entries were sent in event n, one after another from scene s on. Each is foreign to a job whose attempts have drawn these uploads,
-- and each outcome is one that S3 may give.
abbrev pub AreForeign : Script → (Who → List Drawn) → ℕ → Scene → List Entry → Type 0
AreForeign w drawn n s [] = Unit {0}
AreForeign w drawn n s (e ∷ es) = (e.event ≡ n) × IsForeign w drawn e.request × IsHonestOutcome e.outcome (answer s e.request)
    × AreForeign w drawn n (effect s e.request e.outcome) es

-- An event of the other job was played. It leaves all of this job's own as it was, and sends only what is foreign to it.
pub record IsBeside {W : Type 0} (b c : Body W) : Type 0 where
  pub side : c.side ≡ b.side
  pub opening : c.shared.opening ≡ b.shared.opening
  pub theirs : is_mine b.side.others.items (b.shared.events + 1) ≡ false
  pub events : c.shared.events ≡ b.shared.events + 1
  pub part : List Entry
  pub appended : c.shared.journal.entries ≡ b.shared.journal.entries ++ part
  pub foreign : AreForeign b.side.script (λ a. (knows_of b (actor_of a)).drawn) (b.shared.events + 1) b.shared.store.scene part
  -- The store is as these entries leave it.
  pub scene : c.shared.store.scene ≡ after_all b.shared.store.scene part
  pub requests : c.shared.store.requests ≡ length c.shared.journal.entries
  pub fated : AreForetold (λ n. Some (fate_at c.shared.store.fates n)) 1 c.shared.journal.entries
  pub few : c.shared.store.scene.content.next ≤ 2 ^ 62 + c.shared.store.requests

-- What a job keeps between its events still holds after an event of the other job.
abbrev pub RestsBeside : {W : Type 0} → (W → Option Request) → (Setting → Actor → W → Type 0) → (Known → W → Running)
    → (W → Option (List Pick)) → Type 0
RestsBeside wants is_of running picks_of = (b c : Body _) → Quiet wants is_of running picks_of b → IsBeside b c
    → Quiet wants is_of running picks_of c
