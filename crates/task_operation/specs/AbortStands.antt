-- The state of a task abort.
use Rattle.job_model.specs.JobScript.{Script}
use Rattle.job_model.specs.Jobs.{Task}
use Rattle.job_model.specs.Known.{Drawn}
use Rattle.job_protocol.specs.AtWork.{Attempting, task_abort_told, task_abort_wants, task_script}
use Rattle.job_protocol.specs.TaskAborts.{Dropping, Sweeping, TaskAbort, TaskAbortOver, dropped, dropping, removing, sweeping}
use Rattle.job_protocol.specs.TaskAborts.{task_abort_hears, task_abort_over}
use Rattle.list_walk.specs.Walks.{Sweep, all_go, sweep_hears}
use Rattle.machine.specs.Asks.{AskLaws}
use Rattle.machine.specs.Standing.{Fine, Standing}
use Rattle.s3_types.specs.declared.reply.Reply.{Reply}
use Rattle.s3_types.specs.declared.request.Committer.{Committer}
use Rattle.s3_types.specs.declared.request.Committer.TheVariants.{Magic}
use Rattle.std.proofs.Common.{refl}
use Rattle.std.specs.Prelude.{Bool, List, None, Option, Some, false, is_none, is_some, true, [], ◌∷◌, ◌≡◌}
use Rattle.task_operation.specs.Aborts.{abort_fits}
use Rattle.task_operation.specs.Standing.{standing_by}

abbrev pub abort_standing : Attempting TaskAbort → Standing
abort_standing m = standing_by (task_abort_over m.operation)

fine_removing : (sent : Bool) → standing_by (task_abort_over (removing sent)) ≡ Fine
fine_removing true = refl
fine_removing false = refl

fine_dropped : (c : Committer) (sent : Bool) → standing_by (task_abort_over (dropped c sent)) ≡ Fine
fine_dropped Magic sent = refl
fine_dropped _ sent = fine_removing sent

fine_dropping : (c : Committer) (sent : Bool) (ds : List Drawn) → standing_by (task_abort_over (dropping c sent ds)) ≡ Fine
fine_dropping c sent [] = fine_dropped c sent
fine_dropping c sent (d ∷ ds) = refl

fine_sweeping : (o : Option Sweep) → standing_by (task_abort_over (sweeping o)) ≡ Fine
fine_sweeping (Some s) = refl
fine_sweeping None = refl

goes_on : (w : Script) (o : TaskAbort) (a : Reply)
    → standing_by (task_abort_over (task_abort_hears w o a)) ≡ standing_by (task_abort_over o)
goes_on w (Dropping d ds sent) a = fine_dropping w.committer sent ds
goes_on w (Sweeping s) a = fine_sweeping (sweep_hears all_go s a)
goes_on w _ a = refl

-- A task abort has a request to send until it is over.
asks_until : (t : Task) (o : TaskAbort) → is_some (task_abort_wants (record { plan = t; operation = o })) ≡ is_none (task_abort_over o)
asks_until t (TaskAbortOver end) = refl
asks_until t _ = refl

pub abort_laws : AskLaws task_abort_wants task_abort_told abort_fits (λ m. task_abort_over m.operation) abort_standing
abort_laws = record {
  ends = λ m. asks_until m.plan m.operation;
  stops = λ m. refl;
  breaks = λ m. refl;
  faults = λ m r e. refl;
  goes_on = λ m r a b e h. goes_on (task_script m.plan) m.operation a;
}
