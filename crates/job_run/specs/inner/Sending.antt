-- Definitions beside those of `Sending` that no public contract cites.
use Rattle.job_actor.specs.Posting.{DueFits, PostedBy, Sight}
use Rattle.job_actor.specs.declared.posting.Posted.{Posted}
use Rattle.job_model.specs.declared.ends.OpEnd.{OpEnd}
use Rattle.job_run.specs.declared.hands.Hand.{Hand}
use Rattle.job_run.specs.declared.hands.Hand.TheVariants.{At}
use Rattle.s3_types.specs.Store.{Scene}
use Rattle.s3_types.specs.declared.journal.Outcome.{Outcome}
use Rattle.s3_types.specs.declared.request.Actor.{Actor}
use Rattle.s3_types.specs.declared.request.Request.{Request}
use Rattle.std.specs.Prelude.{Option, ℕ}

-- The operation in hand fits each outcome that a send of its request may have in this scene.
abbrev pub HandDue : {W : Type 0} → (W → Option Request) → (W → Outcome → Type 0) → Hand W → Scene → Type 0
HandDue wants fits (At m) s = DueFits wants fits m s
HandDue wants fits _ s = ⊥

-- One send of the operation in hand happened, or memory ran out before it, and the hand is as that leaves it.
abbrev pub HandPosted : {W : Type 0} → (W → Option Request) → (W → Outcome → W) → (W → Option OpEnd) → Actor → ℕ → Hand W → Hand W → Sight
    → Sight → Posted → Type 0
HandPosted wants tells end_of actor event (At m) (At n) c d posted = PostedBy wants tells end_of actor event m n c d posted
HandPosted wants tells end_of actor event _ _ c d posted = ⊥
