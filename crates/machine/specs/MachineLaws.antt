-- What a machine must satisfy beside the contracts of its calls.
use Rattle.machine.specs.Standing.{Broken, Faulted, Standing}
use Rattle.retries.specs.Retries.{Got, Item, OutOfMemory, WornOut}
use Rattle.s3_types.specs.Answer.{answer, apply}
use Rattle.s3_types.specs.Store.{Scene}
use Rattle.s3_types.specs.declared.reply.Reply.{Reply}
use Rattle.s3_types.specs.declared.request.Request.{Request}
use Rattle.std.specs.Prelude.{Bool, None, Option, Some, false, true, ℕ, ◌<◌, ◌≡◌, ◌≤◌}

pub record Laws {M : Type 0} (wants : M → Option Request) (after : M → Item → M) (fits : M → Reply → Bool → Type 0)
    (ready : M → Scene → Bool → Type 0) (left : M → Scene → ℕ) (standing : M → Standing) : Type 0 where
  -- If the machine is ready, the answer that the store gives fits.
  pub fit : (m : M) (s : Scene) (r : Request) (b : Bool) → wants m ≡ Some r → ready m s b → fits m (answer s r) b
  -- It stays ready if a send is lost on the way to the store, and if a send takes effect but its reply is lost.
  pub lost : (m : M) (s : Scene) (b : Bool) → ready m s b → ready m s true
  pub hidden : (m : M) (s : Scene) (r : Request) (b : Bool) → wants m ≡ Some r → ready m s b → ready m (apply s r) true
  -- It is ready again once it has taken the answer, and once a request has exhausted its retries.
  pub took : (m : M) (s : Scene) (r : Request) (b : Bool) → wants m ≡ Some r → ready m s b
      → ready (after m (Got (answer s r) b)) (apply s r) false
  pub gave_up : (m : M) (s : Scene) (r : Request) (b : Bool) → wants m ≡ Some r → ready m s b → ready (after m WornOut) s false
  -- The number of steps that are left falls with each answer and with each request that exhausts its retries. An effect whose reply was
  -- lost does not raise it.
  pub falls : (m : M) (s : Scene) (r : Request) (b : Bool) → wants m ≡ Some r → ready m s b
      → left (after m (Got (answer s r) b)) (apply s r) < left m s
  pub falls_worn : (m : M) (s : Scene) (r : Request) (b : Bool) → wants m ≡ Some r → ready m s b → left (after m WornOut) s < left m s
  pub no_rise : (m : M) (s : Scene) (r : Request) (b : Bool) → wants m ≡ Some r → ready m s b → left m (apply s r) ≤ left m s
  -- After memory runs out it has no next request.
  pub stops : (m : M) → wants (after m OutOfMemory) ≡ None
  pub breaks : (m : M) → standing (after m OutOfMemory) ≡ Broken
  -- It is faulted exactly if one of its requests exhausted its retries.
  pub faults : (m : M) (r : Request) → wants m ≡ Some r → standing (after m WornOut) ≡ Faulted
  pub goes_on : (m : M) (r : Request) (a : Reply) (b : Bool) → wants m ≡ Some r → fits m a b → standing (after m (Got a b)) ≡ standing m
