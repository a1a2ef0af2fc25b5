-- Entries of actors whose turn it is not.
use Rattle.job_examples.specs.Jobs.{hello_tag, lake, said, worker}
use Rattle.job_examples.specs.OneFile.{setting}
use Rattle.job_examples.specs.OneFinished.{the_ends}
use Rattle.job_spec.specs.Follows.{Plays}
use Rattle.s3_types.specs.declared.journal.Entry.{Entry}
use Rattle.s3_types.specs.declared.reply.Reply.TheVariants.{Stored}
use Rattle.s3_types.specs.declared.request.Actor.{Actor}
use Rattle.s3_types.specs.declared.request.Actor.TheVariants.{Attempt, Driver}
use Rattle.s3_types.specs.declared.request.Request.TheVariants.{PutObject}
use Rattle.std.specs.Prelude.{List, None, codes, ℕ, [], ◌∷◌}

-- A put of the task's set, by this actor in this event.
abbrev pub stray : ℕ → Actor → List Entry
stray k a = said k a (PutObject lake (codes "out/__magic/job-j1/sets/task_0.pendingset") (codes "hello") None) (Stored hello_tag) ∷ []

-- No run has an entry of an actor whose turn it is not.
pub record StraysAreRefused : Type 0 where
  -- Before the first event.
  pub no_event : Plays setting [] (stray 0 worker) → ⊥
  -- In the set-up, which has not ended: an entry of an attempt that is not declared, and one of an attempt that has begun nothing.
  pub undeclared : Plays setting [] (stray 1 (Attempt 9 9)) → ⊥
  pub idle : Plays setting [] (stray 1 worker) → ⊥
  -- After the last event.
  pub late : Plays setting the_ends (stray 5 Driver) → ⊥
