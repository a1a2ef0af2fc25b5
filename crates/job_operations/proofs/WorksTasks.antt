-- The operations of attempts in a run: a task commit reads only records of its own files.
use Rattle.text_and_lists.proofs.Members.{none_some}
use Rattle.job_invariant.proofs.Whose.{put_at}
use Rattle.job_invariant.specs.Told.{known}
use Rattle.job_model.specs.Attempts.{Who}
use Rattle.job_model.specs.JobScript.{Script}
use Rattle.job_model.specs.Legal.{IsLegal}
use Rattle.job_protocol.proofs.Begun.{after_check_so}
use Rattle.job_protocol.specs.Operations.{Operation, Setting, TheTaskAbort, TheTaskCommit, TheWrite, tells}
use Rattle.job_protocol.specs.Seen.{Times}
use Rattle.job_protocol.specs.TaskAborts.{task_abort_start}
use Rattle.job_protocol.specs.TaskCommits.{task_commit_start}
use Rattle.job_protocol.specs.Writes.{write_start}
use Rattle.job_refinement.proofs.Kept.{reads_begin, reads_go}
use Rattle.job_refinement.specs.Due.{ReadsOwn}
use Rattle.protocol_runs.specs.Runs.{BeginAbort, BeginPublish, BeginWrite, Beginning, IsOpening, Runs, Stand, actor_begins, attempt_sends}
use Rattle.protocol_runs.specs.Runs.{begin, driver_sends, run_begins, strays}
use Rattle.retries.specs.Retries.{fresh}
use Rattle.s3_types.specs.Store.{Content}
use Rattle.s3_types.specs.declared.journal.Entry.{Entry}
use Rattle.s3_types.specs.declared.journal.Outcome.{Outcome}
use Rattle.std.proofs.Common.{List, Some, arith, refl, ◌≡◌}

abbrev pub OwnTask : Script → Who → Operation → Type 0
OwnTask w a (TheTaskCommit t) = ReadsOwn w a t.operation
OwnTask w a _ = Unit {0}

own_tells : (g : Setting) (a : Who) (op : Operation) (o : Outcome) → OwnTask g.script a op → OwnTask g.script a (tells g a op o)
own_tells g a op o h = grind (arith, reads_go, after_check_so)

-- ---- every run

module _ (g : Setting) (k : Times) (opening : Content) (j : IsLegal g.script) (is_opening : IsOpening g opening) where
  abbrev w : Script
  w = g.script

  own_begin : (y : Stand) (b : Beginning) → ((a : Who) (op : Operation) → y.attempts a ≡ Some op → OwnTask w a op)
      → (a : Who) (op : Operation) → (begin g y b).attempts a ≡ Some op → OwnTask w a op
  own_begin y (BeginWrite b) old a op e = put_at (OwnTask w) y.attempts b (TheWrite (fresh w.retries (write_start w b))) tt old a op e
  own_begin y (BeginPublish b) old a op e = put_at (OwnTask w) y.attempts b (TheTaskCommit (fresh w.retries (task_commit_start w b)))
      (reads_begin w b) old a op e
  own_begin y (BeginAbort b) old a op e = put_at (OwnTask w) y.attempts b (TheTaskAbort
      (fresh w.retries (task_abort_start w (known y.told b)))) tt old a op e
  own_begin y _ old a op e = old a op e

  pub own_task : (es : List Entry) (x : Stand) → Runs g k opening es x → (a : Who) (op : Operation) → x.attempts a ≡ Some op
      → OwnTask w a op
  own_task es x run_begins a op e = absurd (none_some refl e)
  own_task es x (actor_begins fs y b run may) a op e = own_begin y b (own_task fs y run) a op e
  own_task es x (driver_sends fs y v n r o run d asked timely few honest) a op e = own_task fs y run a op e
  own_task es x (attempt_sends fs y b v n r o run set at asked honest) a op e = put_at (OwnTask w) y.attempts b (tells g b v o)
      (own_tells g b v o (own_task fs y run b v at)) (own_task fs y run) a op e
  own_task es x (strays fs y n r o run f) a op e = own_task fs y run a op e
