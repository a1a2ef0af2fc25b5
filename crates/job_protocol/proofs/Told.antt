-- Plans give the requests of operations and their next states.
use Rattle.text_and_lists.specs.Order.{text_eq}
use Rattle.job_model.specs.Attempts.{Who, same_name}
use Rattle.job_model.specs.Files.{File}
use Rattle.job_model.specs.JobScript.{Script}
use Rattle.job_model.specs.Known.{Known}
use Rattle.job_model.specs.Placed.{placed}
use Rattle.job_protocol.specs.AtWork.{job_of, job_script, task_of, task_script}
use Rattle.job_protocol.specs.Conflicts.{checks_partitions, partitions}
use Rattle.job_protocol.specs.Outputs.{files, paths_of}
use Rattle.job_protocol.specs.PlanLaws.{JobsTell, TasksTell}
use Rattle.job_protocol.specs.Records.{record_key, set_text}
use Rattle.job_protocol.specs.Setup.{Setup, setup_after, setup_asks}
use Rattle.job_protocol.specs.Uploading.{Creating}
use Rattle.list_walk.specs.Walks.{More, Walked, Whole}
use Rattle.retries.specs.Retries.{Item}
use Rattle.s3_types.specs.declared.reply.Reply.{Reply}
use Rattle.s3_types.specs.declared.request.Committer.{Committer}
use Rattle.s3_types.specs.declared.request.Committer.TheVariants.{Magic}
use Rattle.s3_types.specs.declared.request.Request.TheVariants.{ClusterPut}
use Rattle.std.proofs.Common.{List, Some, ap, arith, cond, false, map, refl, true, ℕ, [], ◌∙◌, ◌∷◌, ◌≡◌}
use Rattle.std.proofs.lemmas.Bool.Decides.{nat_tests}
use Rattle.std.specs.List.{filter, flat_map}
use Rattle.job_protocol.specs.Writes as writes
use Rattle.job_protocol.specs.TaskCommits as commits
use Rattle.job_protocol.specs.TaskAborts as aborts
use Rattle.job_protocol.specs.Cleanups as cleans

placed_same : (id : List ℕ) (fs : List File) → placed false id fs ≡ fs
placed_same id [] = refl
placed_same id (f ∷ fs) = ap (λ gs. f ∷ gs) (placed_same id fs)

own : (a : Who) → same_name a a ≡ true
own a = grind (arith, nat_tests)

module _ (w : Script) (n : ℕ) (a : Who) (k : Known) where
  abbrev plan : Script
  plan = task_script (task_of w n a k)

  pub files_same : files plan a ≡ files w a
  files_same = rw (own a) (placed_same w.job (files w a))

  -- ---- a write

  write_asks_same : (l : Known) (o : writes.Write) → writes.write_asks plan a l o ≡ writes.write_asks w a l o
  write_asks_same l o = grind arith

  write_goes_same : (o : writes.Write) (i : Item) → writes.write_after plan n o i ≡ writes.write_after w n o i
  write_goes_same o i = grind arith

  -- ---- a task's commit

  checking_same : (ds : List (List ℕ)) → commits.checking plan a ds ≡ commits.checking w a ds
  checking_same [] = ap commits.storing files_same
  checking_same (d ∷ ds) = refl

  start_same : (c : Committer) → commits.task_commit_start_by c plan a ≡ commits.task_commit_start_by c w a
  start_same Magic = refl
  start_same _ = ap (λ fs. commits.checking plan a (cond (checks_partitions w.committer w.mode) (partitions (paths_of fs)) [])) files_same ∙
      checking_same (commits.to_check w a)

  commit_asks_same : (l : Known) (o : commits.TaskCommit) → commits.task_commit_asks plan a l o ≡ commits.task_commit_asks w a l o
  commit_asks_same l (commits.Uploads f fs Creating) = refl
  commit_asks_same l commits.Storing = ap (λ fs. Some (ClusterPut (commits.temporary_path w a) (set_text w a fs l))) files_same
  commit_asks_same l _ = refl

  looked_same : (x : Walked (List ℕ)) → commits.looked plan a x ≡ commits.looked w a x
  looked_same (More keys) = refl
  looked_same (Whole keys) = ap (λ fs. commits.looked_at (commits.least_missing keys (map (record_key w a) fs))
      (flat_map (λ key. filter (λ f. text_eq (record_key w a f) key) fs) keys)) files_same

  checked_same : (d : List ℕ) (ds : List (List ℕ)) (r : Reply) → commits.checked plan a d ds r ≡ commits.checked w a d ds r
  checked_same d ds r = grind (arith, checking_same)

  commit_goes_same : (o : commits.TaskCommit) (i : Item) → commits.task_commit_after plan n a o i ≡ commits.task_commit_after w n a o i
  commit_goes_same o i = grind (arith, looked_same, checked_same)

  -- ---- a task's abort

  abort_asks_same : (o : aborts.TaskAbort) → aborts.task_abort_asks plan a o ≡ aborts.task_abort_asks w a o
  abort_asks_same o = grind arith

  abort_goes_same : (o : aborts.TaskAbort) (i : Item) → aborts.task_abort_after plan o i ≡ aborts.task_abort_after w o i
  abort_goes_same o i = grind arith

pub tasks_tell : TasksTell
tasks_tell = record {
  files = files_same;
  write_starts = λ w n a k. ap (writes.write_start_by w.committer) (files_same w n a k);
  write_asks = write_asks_same;
  write_goes = write_goes_same;
  commit_starts = λ w n a k. start_same w n a k w.committer;
  commit_asks = commit_asks_same;
  commit_goes = commit_goes_same;
  abort_starts = λ w n a k l. refl;
  abort_asks = abort_asks_same;
  abort_goes = abort_goes_same;
}

-- ---- the driver

setup_asks_same : (w : Script) (o : Setup) → setup_asks (job_script (job_of w)) o ≡ setup_asks w o
setup_asks_same w o = grind arith

setup_goes_same : (w : Script) (o : Setup) (i : Item) → setup_after (job_script (job_of w)) o i ≡ setup_after w o i
setup_goes_same w o i = grind arith

clean_asks_same : (w : Script) (o : cleans.Clean) → cleans.clean_asks (job_script (job_of w)) o ≡ cleans.clean_asks w o
clean_asks_same w o = grind arith

clean_goes_same : (w : Script) (o : cleans.Clean) (i : Item) → cleans.clean_after (job_script (job_of w)) o i ≡ cleans.clean_after w o i
clean_goes_same w o i = grind arith

pub jobs_tell : JobsTell
jobs_tell = record {
  setup_asks = setup_asks_same;
  setup_goes = setup_goes_same;
  clean_asks = clean_asks_same;
  clean_goes = clean_goes_same;
}
