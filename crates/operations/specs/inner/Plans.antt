-- Definitions beside those of `Plans` that no public contract cites.
use Rattle.operations.specs.Plans.{Falls, Goes}
use Rattle.operations.specs.declared.plan.Step.{Step}
use Rattle.s3_types.specs.Answer.{answer, apply}
use Rattle.s3_types.specs.Store.{Scene}
use Rattle.s3_types.specs.declared.reply.Reply.{Reply}
use Rattle.s3_types.specs.declared.request.Request.{Request}
use Rattle.std.specs.Prelude.{ℕ, ◌≡◌}

-- Making the request again changes nothing more, and gives the same answer.
pub record Repeats (r : Request) : Type 0 where
  pub effect : (s : Scene) → apply (apply s r) r ≡ apply s r
  pub reply : (s : Scene) → answer (apply s r) r ≡ answer s r

-- What an operation must satisfy if each of its requests may be made twice.
pub record IsPlan {P A : Type 0} (starts : P → Type 0) (asks : P → Request) (goes : P → Reply → Step P A)
    (holds : P → Scene → P → Scene → Type 0) (gives : P → Scene → A → Scene → Type 0) (always : P → Scene → Scene → Type 0)
    (left : P → Scene → ℕ) : Type 0 where
  pub begin : (p : P) (s : Scene) → starts p → holds p s p s
  -- Each of its requests may be made again.
  pub repeats : (p : P) → Repeats (asks p)
  -- The answer that the store gives leads on.
  pub goes_on : (o : P) (z : Scene) (p : P) (s : Scene) → holds o z p s
      → Goes (holds o z) (gives o z) (goes p (answer s (asks p))) (apply s (asks p))
  -- The number of phases that are left falls with the answer, and does not change by the effect alone.
  pub falls : (o : P) (z : Scene) (p : P) (s : Scene) → holds o z p s
      → Falls left (goes p (answer s (asks p))) (apply s (asks p)) (left p s)
  pub stays : (o : P) (z : Scene) (p : P) (s : Scene) → holds o z p s → left p (apply s (asks p)) ≡ left p s
  -- What holds in each phase and at the end holds always.
  pub during : (o : P) (z : Scene) (p : P) (s : Scene) → holds o z p s → always o z s
  pub at_end : (o : P) (z : Scene) (a : A) (s : Scene) → gives o z a s → always o z s
