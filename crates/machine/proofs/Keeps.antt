-- A run of a machine that is alone keeps what each send keeps.
use Rattle.machine.proofs.Keeping.{Keeps}
use Rattle.machine.proofs.Runs.{run_keeps}
use Rattle.retries.specs.Operation.{Follows, run}
use Rattle.retries.specs.Retries.{Item, Retried, step, unanswered_by, wants_of}
use Rattle.s3_types.specs.Answer.{answer, apply}
use Rattle.s3_types.specs.Moment.{AreHonest, IsHonestOutcome, after_all, effect}
use Rattle.s3_types.specs.Store.{Scene}
use Rattle.s3_types.specs.declared.journal.Entry.{Entry}
use Rattle.s3_types.specs.declared.journal.Outcome.{Outcome}
use Rattle.s3_types.specs.declared.journal.Outcome.TheVariants.{Answered, ReplyLost, RequestLost, Slow}
use Rattle.s3_types.specs.declared.request.Request.{Request}
use Rattle.std.proofs.Common.{Bool, List, Option, Some, arith, false, subst, sym, true, ℕ, ◌≡◌}

module _ {M : Type 0} {wants : M → Option Request} {after : M → Item → M} {K : M → Scene → Bool → Type 0} (keeps : Keeps wants after K)
    (retries : ℕ) where
  kept_unanswered : (m : M) (spare : ℕ) (s : Scene) (r : Request) (b : Bool) → wants m ≡ Some r → K m s b
      → K (unanswered_by retries after m b spare).operation s (unanswered_by retries after m b spare).repeated
  kept_unanswered m spare s r b h g = grind arith

  kept_step : (t : Retried M) (s : Scene) (r : Request) (o : Outcome) → wants t.operation ≡ Some r → K t.operation s t.repeated
      → IsHonestOutcome o (answer s r) → K (step retries after t o).operation (effect s r o) (step retries after t o).repeated
  kept_step t s r (Answered a) w h k = subst (λ v. K (step retries after t (Answered v)).operation (apply s r) false) (sym k)
      (keeps.took t.operation s r t.repeated w h)
  kept_step t s r Slow w h k = kept_unanswered t.operation t.spare s r t.repeated w h
  kept_step t s r RequestLost w h k = kept_unanswered t.operation t.spare s r true w (keeps.lost t.operation s t.repeated h)
  kept_step t s r ReplyLost w h k = kept_unanswered t.operation t.spare (apply s r) r true w (keeps.hidden t.operation s r t.repeated w h)

  pub kept_run : (t : Retried M) (s : Scene) (part : List Entry) → Follows (wants_of wants) (step retries after) t part → AreHonest s part
      → K t.operation s t.repeated
      → K (run (step retries after) t part).operation (after_all s part) (run (step retries after) t part).repeated
  kept_run t s part f h k = run_keeps (wants_of wants) (step retries after) (λ v z. K v.operation z v.repeated)
      (λ v z e w o p. kept_step v z e.request e.outcome w p o) t s part f h k
