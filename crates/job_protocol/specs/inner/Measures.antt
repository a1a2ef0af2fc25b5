-- Definitions beside those of `Measures` that no public contract cites.
use Rattle.s3_types.specs.Answer.{answer, apply}
use Rattle.s3_types.specs.Moment.{effect}
use Rattle.s3_types.specs.Store.{Scene}
use Rattle.s3_types.specs.declared.journal.Outcome.{Outcome}
use Rattle.s3_types.specs.declared.journal.Outcome.TheVariants.{Answered}
use Rattle.s3_types.specs.declared.reply.Reply.{Reply}
use Rattle.s3_types.specs.declared.request.Request.{Request}
use Rattle.std.specs.Prelude.{Option, Some, ℕ, ◌+◌, ◌<◌, ◌≡◌, ◌≤◌}

-- Holds if `left` falls with each send of an operation that counts its own sends.
pub record FallsByOutcomes {M : Type 0} (wants : M → Option Request) (tells : M → Outcome → M) (fits : M → Outcome → Type 0)
    (left : M → Scene → ℕ) (rise : ℕ) : Type 0 where
  pub falls : (m : M) (s : Scene) (r : Request) (o : Outcome) → wants m ≡ Some r → fits m o
      → ((a : Reply) → o ≡ Answered a → a ≡ answer s r) → left (tells m o) (effect s r o) < left m s
  pub others : (m : M) (s : Scene) (r : Request) → left m (apply s r) ≤ left m s + rise
