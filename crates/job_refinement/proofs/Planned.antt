-- Machines that follow plans send the requests of their operations by the script, and go on as these do.
use Rattle.job_invariant.specs.Facts.{knowing}
use Rattle.job_model.specs.Attempts.{Who}
use Rattle.job_model.specs.Files.{File}
use Rattle.job_model.specs.JobScript.{Script}
use Rattle.job_model.specs.Known.{Known}
use Rattle.job_protocol.proofs.Told.{jobs_tell, tasks_tell}
use Rattle.job_protocol.specs.AtWork.{Attempting, Driving, clean_told, learned, picked_after, setup_told, task_abort_told, task_commit_told}
use Rattle.job_protocol.specs.AtWork.{task_commit_wants, task_of, task_script, write_told}
use Rattle.job_protocol.specs.Cleanups.{clean_after}
use Rattle.job_protocol.specs.Outputs.{files}
use Rattle.job_protocol.specs.Records.{set_text}
use Rattle.job_protocol.specs.Setup.{setup_after}
use Rattle.job_protocol.specs.TaskAborts.{TaskAbort, task_abort_after, task_abort_asks}
use Rattle.job_protocol.specs.TaskCommits.{Publishing, Storing, TaskCommit, Uploads, task_commit_after, task_commit_asks, temporary_path}
use Rattle.job_protocol.specs.Uploading.{Uploading, upload_asks}
use Rattle.job_protocol.specs.Writes.{Write, write_after, write_asks}
use Rattle.job_refinement.proofs.Telling.{asks_same, begins_same, tells_same}
use Rattle.job_refinement.specs.MachinesFit.{MachinesTell}
use Rattle.job_refinement.specs.Plans.{at_work, committing, driven, driving, heard, known_then, planned}
use Rattle.retries.specs.Retries.{Item, Retried, step}
use Rattle.s3_types.specs.declared.journal.Outcome.{Outcome}
use Rattle.s3_types.specs.declared.request.Request.{Request}
use Rattle.s3_types.specs.declared.request.Request.TheVariants.{ClusterPut, PutObject}
use Rattle.std.proofs.Common.{None, Option, Some, ap, arith, refl, ℕ, [], ◌∙◌, ◌≡◌}
use Rattle.magic_paths.specs.Layout as layout

-- ---- what a plan learns

module _ (w : Script) (n : ℕ) (a : Who) (k : Known) where
  abbrev plan : Script
  plan = task_script (task_of w n a k)

  learned_same : (l : Known) (r : Option Request) (i : Item) → learned plan a l r i ≡ learned w a l r i
  learned_same l r i = grind arith

  -- ---- a step of an operation with retries

  module _ {O : Type 0} (retries : ℕ) (told : Attempting O → Item → Attempting O) (after : O → Item → O) (wants : O → Option Request)
      (same : (op : O) (i : Item) → told (at_work w n a k op) i ≡ at_work w n a (learned w a k (wants op) i) (after op i)) where
    pub step_same : (t : Retried O) (o : Outcome) → step retries told (planned w n a k t) o ≡ planned w n a
        (known_then w a k (wants t.operation) (heard t o)) (step retries after t o)
    step_same t o = grind (arith, same)

  -- ---- the operations

  -- What the plan then knows, and the next operation.
  abbrev both : {O : Type 0} (l m : Known) (op next : O) → l ≡ m → op ≡ next → at_work w n a l op ≡ at_work w n a m next
  both l m op next e g = ap (λ x. at_work w n a x op) e ∙ ap (at_work w n a m) g

  write_same : (op : Write) (i : Item) → write_told (at_work w n a k op) i ≡ at_work w n a (learned w a k (write_asks w a k op) i)
      (write_after w n op i)
  write_same op i = grind arith

  commit_same : (op : TaskCommit) (i : Item) → task_commit_told (at_work w n a k op) i ≡ at_work w n a
      (learned w a k (task_commit_asks w a k op) i) (task_commit_after w n a op i)
  commit_same op i =
      both _ _ _ _ (learned_same k (task_commit_wants (at_work w n a k op)) i ∙ ap (λ r. learned w a k r i)
      (tasks_tell.commit_asks w n a k k op)) (tasks_tell.commit_goes w n a k op i)

  abort_same : (op : TaskAbort) (i : Item) → task_abort_told (at_work w n a k op) i ≡ at_work w n a
      (learned w a k (task_abort_asks w a op) i) (task_abort_after w op i)
  abort_same op i = grind arith

-- ---- with the known uploads

module _ (w : Script) (a : Who) (k l : Known) (e : k.drawn ≡ l.drawn) where
  same_upload : (f : File) (u : Uploading) → upload_asks w k f u ≡ upload_asks w l f u
  same_upload f u = grind arith

  pub same_write : (op : Write) → write_asks w a k op ≡ write_asks w a l op
  same_write op = grind arith

  pub same_commit : (op : TaskCommit) → task_commit_asks w a k op ≡ task_commit_asks w a l op
  same_commit (Publishing cs) = ap (λ ds. Some (PutObject w.dest.bucket (layout.set_key w.dest.key w.job a.task)
      (set_text w a cs (knowing ds)) None)) e
  same_commit (Uploads f fs u) = ap (λ r. Some r) (same_upload f u)
  same_commit Storing = ap (λ ds. Some (ClusterPut (temporary_path w a) (set_text w a (files w a) (knowing ds)))) e
  same_commit _ = refl

-- ---- the driver's

module _ {O : Type 0} (w : Script) (retries : ℕ) (told : Driving O → Item → Driving O) (after : O → Item → O)
    (same : (op : O) (i : Item) → told (driving w op) i ≡ driving w (after op i)) where
  step_driven : (t : Retried O) (o : Outcome) → step retries told (driven w t) o ≡ driven w (step retries after t o)
  step_driven t o = grind (arith, same)

pub machines_tell : MachinesTell
machines_tell = record {
  write_begins = λ w n a k. ap (at_work w n a k) (tasks_tell.write_starts w n a k);
  write_wants = λ g a k l e t. tasks_tell.write_asks g.script g.minimum a k k t.operation ∙ same_write g.script a k l e t.operation;
  write_takes = write_same;
  write_goes = λ g a k t o. step_same g.script g.minimum a k g.script.retries write_told (write_after g.script g.minimum)
      (write_asks g.script a k) (write_same g.script g.minimum a k) t o;
  task_commit_begins = λ w n a k. ap (at_work w n a k) (tasks_tell.commit_starts w n a k);
  task_commit_wants = λ g a k l e t. tasks_tell.commit_asks g.script g.minimum a k k t.operation ∙ same_commit g.script a k l e t.operation;
  task_commit_takes = commit_same;
  task_commit_goes = λ g a k t o. step_same g.script g.minimum a k g.script.retries task_commit_told
      (task_commit_after g.script g.minimum a) (task_commit_asks g.script a k) (commit_same g.script g.minimum a k) t o;
  task_abort_begins = λ w n a k. ap (at_work w n a k) (tasks_tell.abort_starts w n a k k);
  task_abort_wants = λ g a k l t. tasks_tell.abort_asks g.script g.minimum a k t.operation;
  task_abort_takes = abort_same;
  task_abort_goes = λ g a k t o. step_same g.script g.minimum a k g.script.retries task_abort_told (task_abort_after g.script)
      (task_abort_asks g.script a) (abort_same g.script g.minimum a k) t o;
  setup_wants = λ g a l t. jobs_tell.setup_asks g.script t.operation;
  setup_takes = λ w op i. ap (driving w) (jobs_tell.setup_goes w op i);
  setup_goes = λ g t o. step_driven g.script g.script.retries setup_told (setup_after g.script)
      (λ op i. ap (driving g.script) (jobs_tell.setup_goes g.script op i)) t o;
  clean_wants = λ g a l t. jobs_tell.clean_asks g.script t.operation;
  clean_takes = λ w op i. ap (driving w) (jobs_tell.clean_goes w op i);
  clean_goes = λ g t o. step_driven g.script g.script.retries clean_told (clean_after g.script)
      (λ op i. ap (driving g.script) (jobs_tell.clean_goes g.script op i)) t o;
  job_begins = λ w j missing. ap (committing w []) (begins_same w j missing);
  job_wants = λ g m j picked c fits a l. asks_same g.script g.minimum m j c fits;
  job_goes = λ g s last m j f few picked c fits r e o honest. ap (committing g.script (picked_after picked c o))
      (tells_same g.script g.minimum s last m j f few c fits r e o honest);
}
