-- The requests that an attempt has left, among others that put nothing below its directory.
use Rattle.job_operations.specs.Acts.{left_of}
use Rattle.job_operations.specs.declared.act.Act.TheVariants.{AbortTask, CommitTask, Write}
use Rattle.text_and_lists.specs.Members.{IsIn}
use Rattle.job_model.specs.Jobs.{Task}
use Rattle.job_protocol.specs.AtWork.{Attempting, task_script, who_of}
use Rattle.job_protocol.specs.TaskAborts.{TaskAbort}
use Rattle.job_protocol.specs.TaskCommits.{TaskCommit, attempt_prefix}
use Rattle.job_protocol.specs.Writes.{Write as Writing}
use Rattle.list_walk.specs.Left.{adds_key}
use Rattle.machine.specs.declared.retrying.Retrying.{Retrying}
use Rattle.s3_types.specs.Answer.{apply}
use Rattle.s3_types.specs.Pages.{begins}
use Rattle.s3_types.specs.Store.{Scene}
use Rattle.s3_types.specs.declared.request.Request.{Request}
use Rattle.std.specs.Prelude.{List, false, true, ℕ, ◌≡◌, ◌≤◌}
use Rattle.store_frame.specs.Frame.{changed_keys}

-- No key that the request may add begins with `p`.
abbrev pub PutsNone : List ℕ → Request → Type 0
PutsNone p r = adds_key r ≡ true → (k : List ℕ) → IsIn k (changed_keys r) → begins p k ≡ false

-- The prefix of the keys of an attempt's directory.
abbrev pub below : Task → List ℕ
below t = attempt_prefix (task_script t) (who_of t)

-- Such a request does not raise the bound on the sends that an attempt's operation has left.
pub record AttemptsStay : Type 0 where
  pub writes : (t : Retrying (Attempting Writing)) (s : Scene) (r : Request) → left_of (Write t) (apply s r) ≤ left_of (Write t) s
  pub commits : (t : Retrying (Attempting TaskCommit)) (s : Scene) (r : Request) → PutsNone (below t.machine.plan) r
      → left_of (CommitTask t) (apply s r) ≤ left_of (CommitTask t) s
  pub aborts : (t : Retrying (Attempting TaskAbort)) (s : Scene) (r : Request) → PutsNone (below t.machine.plan) r
      → left_of (AbortTask t) (apply s r) ≤ left_of (AbortTask t) s
