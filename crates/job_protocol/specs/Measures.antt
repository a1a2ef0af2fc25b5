-- Measures of how many requests an operation still has to send, while others send too.
use Rattle.retries.specs.Retries.{Got, Item, WornOut}
use Rattle.s3_types.specs.Answer.{answer, apply}
use Rattle.s3_types.specs.Store.{Scene}
use Rattle.s3_types.specs.declared.reply.Reply.{Reply}
use Rattle.s3_types.specs.declared.request.Request.{Request}
use Rattle.std.specs.Prelude.{Bool, Option, Some, ℕ, ◌+◌, ◌<◌, ◌≡◌, ◌≤◌}

-- Holds if `left` bounds the answers and exhausted requests that an operation still gets, where nobody else sends.
pub record FallsAmong {M : Type 0} (wants : M → Option Request) (after : M → Item → M) (fits : M → Reply → Bool → Type 0)
    (left : M → Scene → ℕ) (rise : ℕ) : Type 0 where
  -- It falls with the answer of the store, if it fits, and with a request that runs out of retries.
  pub falls : (m : M) (s : Scene) (r : Request) (b : Bool) → wants m ≡ Some r → fits m (answer s r) b
      → left (after m (Got (answer s r) b)) (apply s r) < left m s
  pub falls_worn : (m : M) (s : Scene) (r : Request) → wants m ≡ Some r → left (after m WornOut) s < left m s
  -- It does not rise by an effect of the operation's own request whose reply is lost.
  pub no_rise : (m : M) (s : Scene) (r : Request) → wants m ≡ Some r → left m (apply s r) ≤ left m s
  -- One request of another actor raises it by at most `rise`.
  pub others : (m : M) (s : Scene) (r : Request) → left m (apply s r) ≤ left m s + rise
