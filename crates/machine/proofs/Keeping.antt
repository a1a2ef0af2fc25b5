-- What each send of a machine that is alone keeps.
use Rattle.retries.specs.Retries.{Got, Item, WornOut}
use Rattle.s3_types.specs.Answer.{answer, apply}
use Rattle.s3_types.specs.Store.{Scene}
use Rattle.s3_types.specs.declared.request.Request.{Request}
use Rattle.std.specs.Prelude.{Bool, Option, Some, false, true, ◌≡◌}

-- K relates the machine, the scene, and whether an earlier send of its request was lost. Each send keeps it.
pub record Keeps {M : Type 0} (wants : M → Option Request) (after : M → Item → M) (K : M → Scene → Bool → Type 0) : Type 0 where
  -- A send was lost on the way to the store; or it took effect, but its reply was lost.
  pub lost : (m : M) (s : Scene) (b : Bool) → K m s b → K m s true
  pub hidden : (m : M) (s : Scene) (r : Request) (b : Bool) → wants m ≡ Some r → K m s b → K m (apply s r) true
  -- The answer was taken; or the request exhausted its retries.
  pub took : (m : M) (s : Scene) (r : Request) (b : Bool) → wants m ≡ Some r → K m s b → K (after m (Got (answer s r) b)) (apply s r) false
  pub gave_up : (m : M) (s : Scene) (r : Request) (b : Bool) → wants m ≡ Some r → K m s b → K (after m WornOut) s false
