-- The lines of events.
use Rattle.text_and_lists.specs.Numbers.{number_in}
use Rattle.text_and_lists.specs.Reading.{check, need, ◌>>=◌}
use Rattle.text_and_lists.specs.Shapes.{one, two}
use Rattle.job_model.specs.Attempts.{actor_of, declares, is_known}
use Rattle.job_model.specs.declared.events.Event.{Event}
use Rattle.job_model.specs.declared.events.Op.{Op}
use Rattle.job_script.specs.AttemptLines.{name_at}
use Rattle.job_script.specs.HeadLines.{number, value_at}
use Rattle.job_script.specs.Kinds.{attempt_ops, driver_ops, named}
use Rattle.job_script.specs.declared.draft.Draft.{Draft}
use Rattle.job_script.specs.declared.fault.ScriptFault.{ScriptFault}
use Rattle.job_script.specs.declared.fault.ScriptFault.TheVariants.{BadLine, BadNumber, TooLarge, UnknownActor}
use Rattle.job_script.specs.declared.kinds.EventWord.{EventWord}
use Rattle.s3_types.specs.declared.request.Actor.{Actor}
use Rattle.std.specs.Prelude.{Bool, List, Ok, Option, Result, bytes_eq, codes, if◌then◌else◌, length, nat_lt, ℕ, [], ◌++◌, ◌∷◌}
use Rattle.s3_types.specs.declared.request.Actor.TheVariants as actor
use Rattle.job_model.specs.declared.events.Event.TheVariants as event
use Rattle.job_script.specs.declared.kinds.EventWord.TheVariants as words

-- True for the word `driver`.
abbrev pub is_driver : List ℕ → Bool
is_driver word = bytes_eq word (codes "driver")

-- The actor of `driver` or T.A.
unfoldable pub actor_at : ℕ → List ℕ → Result Actor ScriptFault
actor_at n word = if is_driver word then Ok actor.Driver else (name_at n word >>= λ name. Ok (actor.Attempt name.task name.attempt))

-- The operation with this name, if the actor has it.
abbrev pub op_of : List ℕ → List ℕ → Option Op
op_of actor word = if is_driver actor then named driver_ops word else named attempt_ops word

-- ACTOR OP: the actor is the driver or a declared attempt.
unfoldable pub order_at : ℕ → Draft → List (List ℕ) → Result (Actor × Op) ScriptFault
order_at n d values = do
  words ← need (two values) (BadLine n)
  op ← need (op_of words.0 words.1) (BadLine n)
  actor ← actor_at n words.0
  known ← check (is_known d.attempts actor) (UnknownActor n)
  Ok (actor, op)

-- ACTOR: the driver or a declared attempt.
unfoldable pub alone_at : ℕ → Draft → List (List ℕ) → Result Actor ScriptFault
alone_at n d values = do
  word ← need (one values) (BadLine n)
  actor ← actor_at n word
  known ← check (is_known d.attempts actor) (UnknownActor n)
  Ok actor

-- The event of `step ACTOR N`.
unfoldable pub step_at : ℕ → Draft → List (List ℕ) → Result Event ScriptFault
step_at n d values = do
  words ← need (two values) (BadLine n)
  actor ← actor_at n words.0
  count ← need (number_in 1 1000000 words.1) (BadNumber n)
  known ← check (is_known d.attempts actor) (UnknownActor n)
  Ok (event.Step actor count)

-- The event of `restart driver`.
unfoldable pub restart_at : ℕ → List (List ℕ) → Result Event ScriptFault
restart_at n values = do
  word ← need (one values) (BadLine n)
  driver ← check (is_driver word) (BadLine n)
  Ok event.Restart

-- The event of `recover T.A`, a declared attempt.
unfoldable pub recover_at : ℕ → Draft → List (List ℕ) → Result Event ScriptFault
recover_at n d values = do
  word ← need (one values) (BadLine n)
  name ← name_at n word
  known ← check (declares d.attempts name) (UnknownActor n)
  Ok (event.Recover (actor_of name))

-- The event of a line: do ACTOR OP, start ACTOR OP, step ACTOR N, run ACTOR, kill ACTOR, mix SEED, restart driver, recover T.A.
abbrev pub event_at : ℕ → EventWord → Draft → List (List ℕ) → Result Event ScriptFault
event_at n words.Do d values = order_at n d values >>= λ order. Ok (event.Do order.0 order.1)
event_at n words.Start d values = order_at n d values >>= λ order. Ok (event.Start order.0 order.1)
event_at n words.Step d values = step_at n d values
event_at n words.Run d values = alone_at n d values >>= λ actor. Ok (event.Run actor)
event_at n words.Kill d values = alone_at n d values >>= λ actor. Ok (event.Kill actor)
event_at n words.Mix d values = value_at (number 0 2147483647) n values >>= λ seed. Ok (event.Mix seed)
event_at n words.Restart d values = restart_at n values
event_at n words.Recover d values = recover_at n d values

-- The draft with one more event.
unfoldable pub event_line_at : ℕ → EventWord → Draft → List (List ℕ) → Result Draft ScriptFault
event_line_at n word d values = do
  event ← event_at n word d values
  few ← check (nat_lt (length d.events) 100000) TooLarge
  Ok (record d { events = d.events ++ event ∷ [] })
