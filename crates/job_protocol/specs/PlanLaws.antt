-- An operation needs no more of a script than its actor's plan holds.
use Rattle.job_model.specs.Attempts.{Who}
use Rattle.job_model.specs.JobScript.{Script}
use Rattle.job_model.specs.Known.{Known}
use Rattle.job_protocol.specs.AtWork.{job_of, job_script, task_of, task_script}
use Rattle.job_protocol.specs.Cleanups.{Clean, clean_after, clean_asks}
use Rattle.job_protocol.specs.Outputs.{files}
use Rattle.job_protocol.specs.Setup.{Setup, setup_after, setup_asks}
use Rattle.job_protocol.specs.TaskAborts.{TaskAbort, task_abort_after, task_abort_asks, task_abort_start}
use Rattle.job_protocol.specs.TaskCommits.{TaskCommit, task_commit_after, task_commit_asks, task_commit_start}
use Rattle.job_protocol.specs.Writes.{Write, write_after, write_asks, write_start}
use Rattle.retries.specs.Retries.{Item}
use Rattle.std.specs.Prelude.{ℕ, ◌≡◌}

-- An attempt's plan has its files, and its operations send and go on by the plan as by the script.
pub record TasksTell : Type 0 where
  pub files : (w : Script) (n : ℕ) (a : Who) (k : Known) → files (task_script (task_of w n a k)) a ≡ files w a
  pub write_starts : (w : Script) (n : ℕ) (a : Who) (k : Known) → write_start (task_script (task_of w n a k)) a ≡ write_start w a
  pub write_asks : (w : Script) (n : ℕ) (a : Who) (k l : Known) (o : Write)
      → write_asks (task_script (task_of w n a k)) a l o ≡ write_asks w a l o
  pub write_goes : (w : Script) (n : ℕ) (a : Who) (k : Known) (o : Write) (i : Item)
      → write_after (task_script (task_of w n a k)) n o i ≡ write_after w n o i
  pub commit_starts : (w : Script) (n : ℕ) (a : Who) (k : Known)
      → task_commit_start (task_script (task_of w n a k)) a ≡ task_commit_start w a
  pub commit_asks : (w : Script) (n : ℕ) (a : Who) (k l : Known) (o : TaskCommit)
      → task_commit_asks (task_script (task_of w n a k)) a l o ≡ task_commit_asks w a l o
  pub commit_goes : (w : Script) (n : ℕ) (a : Who) (k : Known) (o : TaskCommit) (i : Item)
      → task_commit_after (task_script (task_of w n a k)) n a o i ≡ task_commit_after w n a o i
  pub abort_starts : (w : Script) (n : ℕ) (a : Who) (k l : Known)
      → task_abort_start (task_script (task_of w n a k)) l ≡ task_abort_start w l
  pub abort_asks : (w : Script) (n : ℕ) (a : Who) (k : Known) (o : TaskAbort)
      → task_abort_asks (task_script (task_of w n a k)) a o ≡ task_abort_asks w a o
  pub abort_goes : (w : Script) (n : ℕ) (a : Who) (k : Known) (o : TaskAbort) (i : Item)
      → task_abort_after (task_script (task_of w n a k)) o i ≡ task_abort_after w o i

-- A set-up and a clean send and go on by the driver's plan as by the script.
pub record JobsTell : Type 0 where
  pub setup_asks : (w : Script) (o : Setup) → setup_asks (job_script (job_of w)) o ≡ setup_asks w o
  pub setup_goes : (w : Script) (o : Setup) (i : Item) → setup_after (job_script (job_of w)) o i ≡ setup_after w o i
  pub clean_asks : (w : Script) (o : Clean) → clean_asks (job_script (job_of w)) o ≡ clean_asks w o
  pub clean_goes : (w : Script) (o : Clean) (i : Item) → clean_after (job_script (job_of w)) o i ≡ clean_after w o i
