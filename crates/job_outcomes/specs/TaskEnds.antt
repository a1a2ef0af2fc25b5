-- How an attempt's operations end.
use Rattle.job_model.specs.Attempts.{Who, actor_of}
use Rattle.job_model.specs.JobScript.{Script}
use Rattle.job_model.specs.Known.{Known}
use Rattle.job_model.specs.Legal.{IsLegal}
use Rattle.job_model.specs.declared.ends.TaskEnd.{TaskEnd}
use Rattle.job_model.specs.declared.events.Op.{Op}
use Rattle.job_protocol.specs.Operations.{Operation, Reports, Setting, TheTaskAbort, TheTaskCommit, advance, over, start_of, wants}
use Rattle.job_protocol.specs.Seen.{Times}
use Rattle.job_protocol.specs.TaskCommits.{TaskCommitOver}
use Rattle.job_spec.specs.Ends.{has_cleaned}
use Rattle.job_spec.specs.OperationEnds.{TaskIs, WasPublished}
use Rattle.job_spec.specs.Turns.{until_last}
use Rattle.protocol_runs.specs.Runs.{IsOpening, Runs, Stand}
use Rattle.retries.specs.Operation.{Follows, run}
use Rattle.retries.specs.Worn.{WornFirst}
use Rattle.s3_types.specs.Store.{Content}
use Rattle.s3_types.specs.declared.journal.Entry.{Entry}
use Rattle.s3_types.specs.declared.request.Actor.TheVariants.{Attempt}
use Rattle.s3_types.specs.declared.request.Request.{Request}
use Rattle.std.specs.Prelude.{Bool, List, Option, Some, false, true, ℕ, ◌≡◌}
use Rattle.job_model.specs.declared.events.Op.TheVariants as ops
use Rattle.job_model.specs.declared.ends.TaskEnd.TheVariants as tasks
use Rattle.job_model.specs.declared.ends.OpEnd.TheVariants as op_ends

-- The operation is the abort of a task.
abbrev pub is_abort : Operation → Bool
is_abort (TheTaskAbort t) = true
is_abort _ = false

-- How an attempt's operations end, for every committer and mode.
pub record TaskEnds : Type 0 where
  -- By its own entries alone, whatever was answered, it has one of the ends that it may have after the driver has begun to clean up.
  pub ends : (g : Setting) (t a : ℕ) (op : Op) (r : Reports) (k : Known) (m : Operation) → start_of g (Attempt t a) op r k ≡ Some m
      → (es : List Entry) → Follows (wants g (Attempt t a)) (advance g (Attempt t a)) (record { operation = m; known = k }) es
      → (e : TaskEnd) → over (run (advance g (Attempt t a)) (record { operation = m; known = k }) es).operation ≡ Some (op_ends.Task e)
      → (worn : Option Request) × WornFirst g.script.retries es worn
      × TaskIs op g.script (record { task = t; attempt = a }) es k.publish_sent true worn e
  -- In a run, a write or commit finds something gone only if the driver's abort or clean began before the attempt's last entry.
  pub gone : (g : Setting) → IsLegal g.script → (k : Times) (opening : Content) → IsOpening g opening → (es : List Entry) (x : Stand)
      → Runs g k opening es x → (a : Who) (op : Operation) (name : List ℕ)
      → x.attempts a ≡ Some op → is_abort op ≡ false → over op ≡ Some (op_ends.Task (tasks.Gone name))
      → has_cleaned x.told.cleans_at (until_last (actor_of a) es) ≡ true
  -- A commit that is done has published, unless the driver had begun to clean up before the attempt's last entry.
  pub published : (g : Setting) → IsLegal g.script → (k : Times) (opening : Content) → IsOpening g opening → (es : List Entry) (x : Stand)
      → Runs g k opening es x → (a : Who) (spare : ℕ) (repeated : Bool)
      → x.attempts a ≡ Some (TheTaskCommit (record { operation = TaskCommitOver tasks.Done; spare = spare; repeated = repeated }))
      → has_cleaned x.told.cleans_at (until_last (actor_of a) es) ≡ false → (n : ℕ)
      × WasPublished g.script opening es a.task a.attempt n
  -- Both together: the end is one that the operation may have, by whether the driver had begun to clean up.
  pub joined : (op : Op) (w : Script) (a : Who) (es : List Entry) (sent cleaned : Bool) (worn : Option Request) (e : TaskEnd)
      → TaskIs op w a es sent true worn e → ((op ≡ ops.Abort → ⊥) → (name : List ℕ) → e ≡ tasks.Gone name → cleaned ≡ true)
      → TaskIs op w a es sent cleaned worn e
