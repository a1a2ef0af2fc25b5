-- What an operation that is described by its phases must satisfy if some requests may not be made twice. A phase then says what holds
-- after a lost send.
use Rattle.operations.specs.Plans.{Falls, Goes}
use Rattle.operations.specs.declared.plan.Step.{Step}
use Rattle.s3_types.specs.Answer.{answer, apply}
use Rattle.s3_types.specs.Store.{Scene}
use Rattle.s3_types.specs.declared.reply.Reply.{Reply}
use Rattle.s3_types.specs.declared.request.Request.{Request}
use Rattle.std.specs.Prelude.{Bool, false, true, ℕ, ◌≡◌, ◌≤◌, ◌⊎◌}

-- What an operation must satisfy if some of its requests may not be made twice.
pub record IsCourse {P A : Type 0} (starts : P → Type 0) (asks : P → Request) (goes : P → Reply → Bool → Step P A)
    (holds : P → Scene → P → Scene → Bool → Type 0) (gives : P → Scene → A → Scene → Type 0) (always : P → Scene → Scene → Type 0)
    (more : P → Scene → ℕ) : Type 0 where
  pub begin : (p : P) (s : Scene) → starts p → holds p s p s false
  -- Its phase still holds if a send is lost on the way to the store, and if it takes effect but its reply is lost.
  pub lost : (o : P) (z : Scene) (p : P) (s : Scene) (b : Bool) → holds o z p s b → holds o z p s true
  pub hidden : (o : P) (z : Scene) (p : P) (s : Scene) (b : Bool) → holds o z p s b → holds o z p (apply s (asks p)) true
  -- The answer that the store gives leads on.
  pub goes_on : (o : P) (z : Scene) (p : P) (s : Scene) (b : Bool) → holds o z p s b
      → Goes (λ p s. holds o z p s false) (gives o z) (goes p (answer s (asks p)) b) (apply s (asks p))
  -- The number of phases that are left falls with the answer, and does not rise by the effect alone.
  pub falls : (o : P) (z : Scene) (p : P) (s : Scene) (b : Bool) → holds o z p s b
      → Falls more (goes p (answer s (asks p)) b) (apply s (asks p)) (more p s)
  pub no_rise : (o : P) (z : Scene) (p : P) (s : Scene) (b : Bool) → holds o z p s b → more p (apply s (asks p)) ≤ more p s
  -- What holds in each phase and at the end holds always.
  pub during : (o : P) (z : Scene) (p : P) (s : Scene) (b : Bool) → holds o z p s b → always o z s
  pub at_end : (o : P) (z : Scene) (a : A) (s : Scene) → gives o z a s → always o z s

-- The operation may send the request of each phase that it can be in.
abbrev pub MaySend : {P : Type 0} → (P → Request) → (P → Scene → P → Scene → Bool → Type 0) → (P → Scene → Request → Type 0) → Type 0
MaySend {P = P} asks holds sends = (o : P) (z : Scene) (p : P) (s : Scene) (b : Bool) → holds o z p s b → sends o z (asks p)

-- What holds if each send was answered, and what the operation then leaves.
pub record IsCalm {P A : Type 0} (starts : P → Type 0) (asks : P → Request) (goes : P → Reply → Bool → Step P A)
    (calm : P → Scene → P → Scene → Type 0) (leaves : P → Scene → A → Scene → Type 0) : Type 0 where
  pub begin : (p : P) (s : Scene) → starts p → calm p s p s
  pub goes_on : (o : P) (z : Scene) (p : P) (s : Scene) → calm o z p s
      → Goes (calm o z) (leaves o z) (goes p (answer s (asks p)) false) (apply s (asks p))

-- No send of the present request was lost.
abbrev pub unlost : {P : Type 0} → (P → Scene → P → Scene → Bool → Type 0) → P → Scene → P → Scene → Type 0
unlost holds o z p s = holds o z p s false

-- ---- an operation whose requests may all be made again, as a course

-- It goes on in the same way if a send was lost.
abbrev pub once : {P A : Type 0} → (P → Reply → Step P A) → P → Reply → Bool → Step P A
once goes p r b = goes p r

-- The phase holds in the scene before its present request. The request may have had its effect since.
pub record Reached {P : Type 0} (asks : P → Request) (holds : P → Scene → Type 0) (p : P) (s : Scene) : Type 0 where
  pub settled : Scene
  pub phase : holds p settled
  pub seen : (s ≡ settled) ⊎ (s ≡ apply settled (asks p))

-- The phase holds before its present request, or before an effect of it.
abbrev pub reached : {P : Type 0} → (P → Request) → (P → Scene → P → Scene → Type 0) → P → Scene → P → Scene → Bool → Type 0
reached asks holds o z p s b = Reached asks (holds o z) p s
