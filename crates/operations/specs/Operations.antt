-- An operation as a machine.
use Rattle.machine.specs.Standing.{Broken, Faulted, Fine, Standing}
use Rattle.operations.specs.declared.operation.OperationStage.{OperationStage}
use Rattle.operations.specs.declared.operation.OperationStage.TheVariants.{NoMemory, On, Over, StoreFault}
use Rattle.operations.specs.declared.plan.Step.{Step}
use Rattle.operations.specs.declared.plan.Step.TheVariants.{End, Next}
use Rattle.retries.specs.Retries.{Got, Item, OutOfMemory, WornOut}
use Rattle.s3_types.specs.Store.{Scene}
use Rattle.s3_types.specs.declared.reply.Reply.{Reply}
use Rattle.s3_types.specs.declared.request.Request.{Request}
use Rattle.std.specs.Prelude.{Bool, None, Option, Some, ℕ, ◌+◌}

-- The next request: a phase has one, an ended operation has none.
abbrev pub wanted : {P A : Type 0} → (P → Request) → OperationStage P A → Option Request
wanted asks (On p) = Some (asks p)
wanted asks _ = None

-- The stage to which a step leads.
abbrev pub led : {P A : Type 0} → Step P A → OperationStage P A
led (Next p) = On p
led (End a) = Over a

-- The stage to which a reply leads.
abbrev pub got : {P A : Type 0} → (P → Reply → Bool → Step P A) → OperationStage P A → Reply → Bool → OperationStage P A
got goes (On p) r b = led (goes p r b)
got goes (Over a) r b = Over a
got goes StoreFault r b = StoreFault
got goes NoMemory r b = NoMemory

-- The stage to which an item leads.
abbrev pub after : {P A : Type 0} → (P → Reply → Bool → Step P A) → OperationStage P A → Item → OperationStage P A
after goes m (Got r b) = got goes m r b
after goes m WornOut = StoreFault
after goes m OutOfMemory = NoMemory

-- Any reply may come.
abbrev pub any_reply : {P A : Type 0} → OperationStage P A → Reply → Bool → Type 0
any_reply m r b = Unit {0}

-- At most this many answers are to come.
abbrev pub left : {P A : Type 0} → (P → Scene → ℕ) → OperationStage P A → Scene → ℕ
left more (On p) s = 1 + more p s
left more _ s = 0

-- StoreFault stands for an exhausted request, NoMemory for memory that ran out.
abbrev pub standing : {P A : Type 0} → OperationStage P A → Standing
standing StoreFault = Faulted
standing NoMemory = Broken
standing _ = Fine

-- What holds of an operation between two sends.
abbrev pub Kept : {P A : Type 0} → (P → Scene → Bool → Type 0) → (A → Scene → Type 0) → (Scene → Type 0) → OperationStage P A → Scene
    → Bool → Type 0
Kept holds gives always (On p) s b = holds p s b
Kept holds gives always (Over a) s b = gives a s
Kept holds gives always _ s b = always s

-- The operation was started at some phase and scene, and has gone on well since.
pub record IsReady {P A : Type 0} (holds : P → Scene → P → Scene → Bool → Type 0) (gives : P → Scene → A → Scene → Type 0)
    (always : P → Scene → Scene → Type 0) (m : OperationStage P A) (s : Scene) (b : Bool) : Type 0 where
  pub first : P
  pub opening : Scene
  pub kept : Kept (holds first opening) (gives first opening) (always first opening) m s b
