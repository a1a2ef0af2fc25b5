-- What an attempt knows after one more of its own requests, and the state after a request that got no answer.
use Rattle.job_invariant.specs.Told.{Told, known, tell_attempt}
use Rattle.job_model.specs.Attempts.{Who}
use Rattle.job_model.specs.JobScript.{Script}
use Rattle.job_model.specs.Known.{Known}
use Rattle.job_protocol.specs.Knowledge.{learn}
use Rattle.retries.specs.Retries.{Got, Item, Retried, WornOut, step}
use Rattle.s3_types.specs.Answer.{apply}
use Rattle.s3_types.specs.Moment.{IsHonestOutcome, effect, is_effective}
use Rattle.s3_types.specs.Store.{Scene}
use Rattle.s3_types.specs.declared.journal.Outcome.{Outcome}
use Rattle.s3_types.specs.declared.journal.Outcome.TheVariants.{Answered}
use Rattle.s3_types.specs.declared.reply.Reply.{Reply}
use Rattle.s3_types.specs.declared.request.Request.{Request}
use Rattle.std.proofs.Common.{None, Option, Some, arith, false, subst, true, ℕ, ◌≡◌}

module _ (w : Script) (m : Told) (a : Who) (r : Request) (o : Outcome) where
  pub known_now : known (tell_attempt w m a r o) a ≡ learn w a (known m a) r o
  known_now = grind arith

-- What holds after an answer, and after a send without one, holds after any outcome.
pub step_so : {M : Type 0} (retries : ℕ) (after : M → Item → M) (t : Retried M) (o : Outcome) (P : M → Type 0)
    → ((x : Reply) → o ≡ Answered x → P (after t.operation (Got x t.repeated)))
    → (((x : Reply) → o ≡ Answered x → ⊥) → P t.operation) → (((x : Reply) → o ≡ Answered x → ⊥) → P (after t.operation WornOut))
    → P (step retries after t o).operation
step_so retries after t o P h g e = grind arith

-- A request without an answer teaches nothing about uploads.
pub unlearnt : (w : Script) (a : Who) (k : Known) (r : Request) (o : Outcome) → ((x : Reply) → o ≡ Answered x → ⊥)
    → (learn w a k r o).drawn ≡ k.drawn
unlearnt w a k r o h = grind arith

-- ---- what holds whatever becomes of a request

-- From what holds of the scene if the request took no effect, and of the scene after it if it did.
pub effect_by : (P : Outcome → Scene → Type 0) (s : Scene) (r : Request) (o : Outcome) → (is_effective o ≡ false → P o s)
    → (is_effective o ≡ true → P o (apply s r)) → P o (effect s r o)
effect_by P s r o h g = grind arith

pub effect_so : (P : Scene → Type 0) (s : Scene) (r : Request) (o : Outcome) → P s → P (apply s r) → P (effect s r o)
effect_so P s r o h g = effect_by (λ o. P) s r o (λ e. h) (λ e. g)

-- ---- a step of an operation

-- P holds of the request that is asked, if there is one.
abbrev pub Each : (Request → Type 0) → Option Request → Type 0
Each P None = Unit {0}
Each P (Some q) = P q

pub each_so : (P : Request → Type 0) {x : Option Request} (r : Request) → x ≡ Some r → Each P x → P r
each_so P r e h = subst (Each P) e h

-- It is enough to show P for an answer that is due, for the operation as it is, and for the operation after the request ran out of retries.
pub step_by : {M : Type 0} (P : Outcome → M → Type 0) (retries : ℕ) (after : M → Item → M) (t : Retried M) (y : Reply) (o : Outcome)
    → IsHonestOutcome o y → ((x : Reply) → x ≡ y → P (Answered x) (after t.operation (Got x t.repeated)))
    → (((x : Reply) → o ≡ Answered x → ⊥) → P o t.operation) → (((x : Reply) → o ≡ Answered x → ⊥) → P o (after t.operation WornOut))
    → P o (step retries after t o).operation
step_by P retries after t y o h g e f = grind arith

pub step_asked : {M : Type 0} (P : Request → Outcome → M → Type 0) (retries : ℕ) (after : M → Item → M) (t : Retried M)
    (due : Request → Reply) {x : Option Request} (r : Request) → x ≡ Some r → (o : Outcome) → IsHonestOutcome o (due r)
    → Each (λ q. (y : Reply) → y ≡ due q → P q (Answered y) (after t.operation (Got y t.repeated))) x
    → (((y : Reply) → o ≡ Answered y → ⊥) → Each (λ q. P q o t.operation) x) → P r o (after t.operation WornOut)
    → P r o (step retries after t o).operation
step_asked P retries after t due r h o g e f p = grind arith
