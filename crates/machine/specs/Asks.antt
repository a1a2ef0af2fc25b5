-- What an actor's operation must satisfy beside the contracts of its calls.
use Rattle.machine.specs.Standing.{Broken, Faulted, Standing}
use Rattle.retries.specs.Retries.{Got, Item, OutOfMemory, WornOut}
use Rattle.s3_types.specs.Store.{Scene}
use Rattle.s3_types.specs.declared.reply.Reply.{Reply}
use Rattle.s3_types.specs.declared.request.Request.{Request}
use Rattle.std.specs.Prelude.{Bool, None, Option, Some, is_none, is_some, ◌≡◌}

-- What an actor's operation must satisfy as a machine.
pub record AskLaws {O E : Type 0} (wants : O → Option Request) (after : O → Item → O) (fits : O → Reply → Bool → Type 0)
    (end_of : O → Option E) (standing : O → Standing) : Type 0 where
  -- It has a next request exactly as long as it has not ended.
  pub ends : (o : O) → is_some (wants o) ≡ is_none (end_of o)
  -- After memory runs out it has no next request.
  pub stops : (o : O) → wants (after o OutOfMemory) ≡ None
  pub breaks : (o : O) → standing (after o OutOfMemory) ≡ Broken
  -- It is faulted exactly if one of its requests exhausted its retries.
  pub faults : (o : O) (r : Request) → wants o ≡ Some r → standing (after o WornOut) ≡ Faulted
  pub goes_on : (o : O) (r : Request) (a : Reply) (b : Bool) → wants o ≡ Some r → fits o a b → standing (after o (Got a b)) ≡ standing o

-- It runs among others, so it promises nothing of a scene.
abbrev pub never : {O : Type 0} → O → Scene → Bool → Type 0
never o s repeated = ⊥
