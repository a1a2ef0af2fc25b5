-- Which entries of a run belong to which actor and operation.
use Rattle.job_model.specs.Attempts.{Who, actor_of}
use Rattle.job_model.specs.JobScript.{Script}
use Rattle.job_model.specs.Known.{Known}
use Rattle.job_model.specs.declared.events.Op.{Op}
use Rattle.job_protocol.specs.JobCommits.{Commit}
use Rattle.job_protocol.specs.Operations.{Operation, Setting, TheCommit, TheSetup, start_of}
use Rattle.job_protocol.specs.Seen.{Times, is_begun}
use Rattle.job_protocol.specs.Setup.{Setup}
use Rattle.job_spec.specs.OperationEnds.{WasPublished}
use Rattle.job_spec.specs.Turns.{AllBy, AllUpTo, by_actor, own, until_last}
use Rattle.protocol_runs.specs.Runs.{Runs, Stand, is_done}
use Rattle.retries.specs.Retries.{Retried}
use Rattle.s3_types.specs.Store.{Content}
use Rattle.s3_types.specs.declared.journal.Entry.{Entry}
use Rattle.s3_types.specs.declared.request.Actor.TheVariants.{Driver}
use Rattle.std.specs.List.{filter}
use Rattle.std.specs.Prelude.{List, None, Some, false, ℕ, [], ◌++◌, ◌≡◌}

-- The entries of a run, by their actors and operations.
pub record RunEntries : Type 0 where
  -- If no other job shares the destination, the entries of the driver's commit are all entries of the driver in the event of the commit and
  -- later.
  pub commit : (g : Setting) → g.shared ≡ false → (k : Times) (opening : Content) (es : List Entry) (x : Stand) → Runs g k opening es x
      → (c : Commit) → x.driver ≡ Some (TheCommit c) → x.commit ≡ filter (λ e. is_begun k.commit e.event) (by_actor Driver es)
  -- If no attempt has begun anything, all of the job's own entries are the driver's.
  pub alone : (g : Setting) (k : Times) (opening : Content) (es : List Entry) (x : Stand) → Runs g k opening es x
      → ((a : Who) → x.attempts a ≡ None) → AllBy Driver (own es)
  -- No attempt has begun anything until the driver's set-up has ended Done.
  pub setup : (g : Setting) (k : Times) (opening : Content) (es : List Entry) (x : Stand) → Runs g k opening es x → (t : Retried Setup)
      → x.driver ≡ Some (TheSetup t) → is_done t.operation ≡ false → (a : Who) → x.attempts a ≡ None
  -- An attempt's operation that is past its first state was in the same state in the run that ends with the attempt's last entry.
  pub last : (g : Setting) (k : Times) (opening : Content) (es : List Entry) (x : Stand) → Runs g k opening es x
      → (a : Who) (op : Operation) → x.attempts a ≡ Some op
      → ((b : Who) (o : Op) (m : Known) → start_of g (actor_of b) o (record { missing = None; attempts = [] }) m ≡ Some op → ⊥)
      → (y : Stand) × Runs g k opening (until_last (actor_of a) es) y × (y.told.cleans_at ≡ x.told.cleans_at) × (y.attempts a ≡ Some op)
  -- What is published in a journal is published in a longer one, no later than in the last event of the shorter one.
  pub published : (w : Script) (opening : Content) (es more : List Entry) (t a n i : ℕ) → WasPublished w opening es t a n → AllUpTo i es
      → WasPublished w opening (es ++ more) t a i
