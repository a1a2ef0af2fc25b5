-- The laws of this crate.
use Rattle.conflict.specs.Fits.{FitsCheck}
use Rattle.conflict.specs.Rechecks.{check_wants}
use Rattle.job_invariant.specs.Driver.{FitsJobCommit}
use Rattle.job_invariant.specs.Emptying.{SetsUp}
use Rattle.job_invariant.specs.Facts.{Facts, Hold, IsAttempt}
use Rattle.job_invariant.specs.Filed.{Gone}
use Rattle.job_invariant.specs.FiledLaws.{Commits}
use Rattle.job_invariant.specs.Fits.{Fits, FitsCommit, FitsWrite}
use Rattle.job_invariant.specs.Foreign.{IsForeign}
use Rattle.job_invariant.specs.Standing.{HasPublished}
use Rattle.job_invariant.specs.Told.{Told, driver_entry, entry, known, strange_entry, tell}
use Rattle.job_invariant.specs.Turning.{NoneEnded}
use Rattle.job_model.specs.Attempts.{Who}
use Rattle.job_model.specs.JobScript.{Script}
use Rattle.job_model.specs.Known.{Known}
use Rattle.job_model.specs.Legal.{IsLegal}
use Rattle.job_protocol.specs.AtWork.{clean_told, clean_wants, commit_told, commit_wants, job_of, learned, picked_after, read_script}
use Rattle.job_protocol.specs.AtWork.{sets_after, sets_in, setup_told, setup_wants, task_abort_told, task_abort_wants, task_commit_told}
use Rattle.job_protocol.specs.AtWork.{task_commit_wants, task_of, task_script, who_of, write_told, write_wants}
use Rattle.job_protocol.specs.Cleanups.{Clean, clean_after}
use Rattle.job_protocol.specs.JobCommits.{Commit, commit_asks, commit_start, commit_tells}
use Rattle.job_protocol.specs.Operations.{Operation, Setting, TheClean, TheCommit, TheSetup, TheTaskAbort, TheTaskCommit, TheWrite, asks}
use Rattle.job_protocol.specs.Rechecks.{Check}
use Rattle.job_protocol.specs.Seen.{Seen, Times, is_begun, is_magic, is_picking, see}
use Rattle.job_protocol.specs.Setup.{Setup, setup_after}
use Rattle.job_protocol.specs.TaskAborts.{TaskAbort, task_abort_after, task_abort_asks, task_abort_start}
use Rattle.job_protocol.specs.TaskCommits.{TaskCommit, task_commit_after, task_commit_asks, task_commit_start}
use Rattle.job_protocol.specs.Writes.{Write, write_after, write_asks, write_start}
use Rattle.job_refinement.specs.Due.{AllPublished, FitsDue, IsSameTold, ReadsOwn, SetStands}
use Rattle.job_refinement.specs.Picked.{ArePicked, IsEachPicked}
use Rattle.job_refinement.specs.Plans.{at_work, committing, driven, driving, heard, known_then, planned, rechecking}
use Rattle.retries.specs.Retries.{Item, Retried, step}
use Rattle.s3_types.specs.Answer.{answer}
use Rattle.s3_types.specs.Moment.{IsHonestOutcome}
use Rattle.s3_types.specs.Store.{Scene}
use Rattle.s3_types.specs.declared.journal.Entry.{Entry}
use Rattle.s3_types.specs.declared.journal.Outcome.{Outcome}
use Rattle.s3_types.specs.declared.request.Request.{Request}
use Rattle.std.specs.Prelude.{List, None, Option, Some, false, true, ℕ, [], ◌<◌, ◌^◌, ◌≡◌, ◌≤◌, ◌⊎◌}
use Rattle.store_frame.specs.Held.{HasBucket}
use Rattle.task_operation.specs.Aborts.{abort_fits}
use Rattle.task_operation.specs.Commits.{commit_fits}
use Rattle.task_requests.specs.Writing.{write_fits}
use Rattle.job_setup.specs.Fits as setups
use Rattle.cleanup.specs.Fits as cleans
use Rattle.commit_lanes.specs.Fitting as jobs

-- ---- the answers that S3 must give

-- If the facts of a job hold, each machine takes the answer that S3 must give to its request, for every committer. The attempt's plan must
-- know the uploads that the replies told the attempt of.
pub record DueFits : Type 0 where
  pub write : (w : Script) (minimum : ℕ) (s : Scene) (last : ℕ → Option ℕ) (m : Told) → IsLegal w → Facts w minimum s last m
      → (a : Who) (k : Known) → k.drawn ≡ m.drawn a
      → (t : Write) → FitsWrite w minimum a (known m a) t → FitsDue write_wants write_fits (at_work w minimum a k t) s
  pub commit : (w : Script) (minimum : ℕ) (s : Scene) (last : ℕ → Option ℕ) (m : Told) → IsLegal w → Facts w minimum s last m
      → s.content.next ≤ 2 ^ 64 → (a : Who) (k : Known) → k.drawn ≡ m.drawn a
      → (t : TaskCommit) → FitsCommit w minimum a (known m a) t → ReadsOwn w a t
      → FitsDue task_commit_wants commit_fits (at_work w minimum a k t) s
  -- These laws need only that the bucket exists.
  pub abort : (w : Script) (minimum : ℕ) (s : Scene) → HasBucket s.content w.dest.bucket → (a : Who) (k : Known) (t : TaskAbort)
      → FitsDue task_abort_wants abort_fits (at_work w minimum a k t) s
  pub clean : (w : Script) (s : Scene) → HasBucket s.content w.dest.bucket → (t : Clean)
      → FitsDue clean_wants cleans.FitsDriving (driving w t) s
  pub check : (w : Script) (s : Scene) → HasBucket s.content w.dest.bucket → (partitions : List (List ℕ)) (c : Check)
      → FitsDue check_wants FitsCheck (rechecking w partitions c) s
  -- A set-up finds out whether the bucket exists.
  pub setup : (w : Script) (s : Scene) (t : Setup) → SetsUp w s.content t → FitsDue setup_wants setups.FitsDriving (driving w t) s
  -- The job's commit takes every honest outcome if the set that it reads next exists. The commit itself keeps whether a send of a
  -- completion was lost.
  pub job_commit : (w : Script) (minimum : ℕ) (s : Seen) (m : Told) (c : Commit) → IsLegal w → Commits w minimum s m c
      → s.scene.content.next ≤ 2 ^ 64 → SetStands w s c
      → (picked : List ℕ) (r : Request) → commit_wants (committing w picked c) ≡ Some r → (o : Outcome)
      → IsHonestOutcome o (answer s.scene r) → jobs.FitsCommit (committing w picked c) o

-- The conditions of `DueFits` besides the facts hold on, whatever the outcome of a send.
pub record PremisesKeep : Type 0 where
  pub reads_begin : (w : Script) (a : Who) → ReadsOwn w a (task_commit_start w a)
  pub reads_go : (w : Script) (minimum retries : ℕ) (a : Who) (t : Retried TaskCommit) (o : Outcome) → ReadsOwn w a t.operation
      → ReadsOwn w a (step retries (task_commit_after w minimum a) t o).operation
  -- The set that a commit reads next exists until the driver cleans up, if each task has a last publisher.
  pub stands : (w : Script) (minimum : ℕ) (s : Seen) (m : Told) (c : Commit) → Hold w minimum s m
      → FitsJobCommit w minimum m.publish_sent m.drawn c → m.cleaned ≡ false → AllPublished w s → SetStands w s c
  -- A task that has a last publisher keeps having one, whoever sends.
  pub published : (w : Script) (k : Times) (s : Seen) (e : Entry) (t : ℕ) → HasPublished s t → HasPublished (see w k s e) t

-- The facts of the driver's commit (`Commits`) hold from its beginning on. At the beginning, the driver has ended no upload yet, or the
-- commit reads and deletes nothing. They hold on after each request of the commit, which does not clean up. The requests of attempts and
-- from outside the job keep them too.
pub record CommitsKeep : Type 0 where
  pub begins : (w : Script) (minimum : ℕ) (s : Seen) (m : Told) → IsLegal w → Hold w minimum s m → Gone w s.scene.content m
      → (missing : Option ℕ) → (missing ≡ None → (0 < w.tasks) ⊎ (is_magic w.committer ≡ false) → NoneEnded m)
      → Commits w minimum s m (commit_start w missing)
  pub goes : (g : Setting) → IsLegal g.script → (k : Times) (s : Seen) (m : Told) (n : ℕ) (c : Commit) → Commits g.script g.minimum s m c
      → s.scene.content.next ≤ 2 ^ 64
      → (r : Request) → commit_asks g.script c ≡ Some r → (o : Outcome) → IsHonestOutcome o (answer s.scene r)
      → Commits g.script g.minimum (see g.script k s (driver_entry n r o)) (tell g.script m (driver_entry n r o))
      (commit_tells g.script c o)
  pub unclean : (w : Script) (minimum : ℕ) (s : Seen) (m : Told) (n : ℕ) (c : Commit) → Commits w minimum s m c → (r : Request)
      → commit_asks w c ≡ Some r → (o : Outcome) → m.cleaned ≡ false → is_begun m.cleans_at n ≡ false
      → (tell w m (driver_entry n r o)).cleaned ≡ false
  pub attempts : (g : Setting) → IsLegal g.script → (k : Times) (s : Seen) (m : Told) (a : Who) (n : ℕ) (c : Commit)
      → Commits g.script g.minimum s m c → IsAttempt g.script a → (op : Operation) → Fits g.script g.minimum a m op
      → (r : Request) → asks g a (known m a) op ≡ Some r → (o : Outcome) → IsHonestOutcome o (answer s.scene r)
      → Commits g.script g.minimum (see g.script k s (entry a n r o)) (tell g.script m (entry a n r o)) c
  pub strangers : (w : Script) (minimum : ℕ) → IsLegal w → (k : Times) (s : Seen) (m : Told) (n : ℕ) (c : Commit) → Commits w minimum s m c
      → (r : Request) → IsForeign w m.drawn r → (o : Outcome)
      → Commits w minimum (see w k s (strange_entry n r o)) (tell w m (strange_entry n r o)) c

-- ---- the driver's commit, which knows only the sets of the job's attempts

-- If the sets that the commit has read are those of the script's attempts, the script that they give leads to the same requests as the
-- job's. This holds for every committer.
pub record ReadsTell : Type 0 where
  pub begins : (w : Script) → IsLegal w → (missing : Option ℕ) → commit_start (read_script (job_of w) []) missing ≡ commit_start w missing
  pub asks : (w : Script) (minimum : ℕ) (m : Told) → IsLegal w → (c : Commit) → FitsJobCommit w minimum m.publish_sent m.drawn c
      → commit_asks (read_script (job_of w) (sets_in c)) c ≡ commit_asks w c
  -- The same holds after a set is read now.
  pub tells : (w : Script) (minimum : ℕ) (s : Scene) (last : ℕ → Option ℕ) (m : Told) → IsLegal w → Facts w minimum s last m
      → s.content.next ≤ 2 ^ 64 → (c : Commit) → FitsJobCommit w minimum m.publish_sent m.drawn c
      → (r : Request) → commit_asks w c ≡ Some r → (o : Outcome) → IsHonestOutcome o (answer s r)
      → commit_tells (read_script (job_of w) (sets_after c o)) c o ≡ commit_tells w c o

-- The attempts that a commit has chosen are those that `see` derives from the entries. It requires that nothing is chosen at the
-- beginning, that the commit's entries belong to its own event or later ones, and that the set that it reads next exists.
pub record PicksTell : Type 0 where
  pub begins : (w : Script) (s : Seen) → ((t : ℕ) → s.picks t ≡ None) → (missing : Option ℕ) → ArePicked w s []
      × IsEachPicked [] (commit_start w missing)
  pub goes : (g : Setting) → IsLegal g.script → (k : Times) (s : Seen) (m : Told) (n : ℕ) (c : Commit) → Commits g.script g.minimum s m c
      → s.scene.content.next ≤ 2 ^ 64 → SetStands g.script s c → is_picking k s.begun n ≡ true
      → (picked : List ℕ) → ArePicked g.script s picked → IsEachPicked picked c → (r : Request) → commit_asks g.script c ≡ Some r
      → (o : Outcome) → IsHonestOutcome o (answer s.scene r)
      → let now = picked_after picked c o in ArePicked g.script (see g.script k s (driver_entry n r o)) now
      × IsEachPicked now (commit_tells g.script c o)
  -- Requests of others do not change the chosen attempts.
  pub attempts : (w : Script) (k : Times) (s : Seen) (a : Who) (n : ℕ) (r : Request) (o : Outcome)
      → (see w k s (entry a n r o)).picks ≡ s.picks
  pub strangers : (w : Script) (k : Times) (s : Seen) (n : ℕ) (r : Request) (o : Outcome)
      → (see w k s (strange_entry n r o)).picks ≡ s.picks

-- ---- machines that follow plans

-- A machine sends the request that its operation sends by the script (`wants`). After a reply or fault it goes on as the operation does
-- (`takes`), and with retries after an outcome as `tells` says (`goes`). The attempt's plan knows `k`, and `l` is what its entries told
-- the attempt.
pub record MachinesTell : Type 0 where
  pub write_begins : (w : Script) (minimum : ℕ) (a : Who) (k : Known)
      → let p = task_of w minimum a k in at_work w minimum a k (write_start (task_script p) (who_of p)) ≡ at_work w minimum a k
      (write_start w a)
  pub write_wants : (g : Setting) (a : Who) (k l : Known) → k.drawn ≡ l.drawn → (t : Retried Write)
      → write_wants (at_work g.script g.minimum a k t.operation) ≡ asks g a l (TheWrite t)
  pub write_takes : (w : Script) (minimum : ℕ) (a : Who) (k : Known) (t : Write) (i : Item)
      → write_told (at_work w minimum a k t) i ≡ at_work w minimum a (learned w a k (write_asks w a k t) i) (write_after w minimum t i)
  pub write_goes : (g : Setting) (a : Who) (k : Known) (t : Retried Write) (o : Outcome)
      → step g.script.retries write_told (planned g.script g.minimum a k t) o ≡ planned g.script g.minimum a
      (known_then g.script a k (asks g a k (TheWrite t)) (heard t o)) (step g.script.retries (write_after g.script g.minimum) t o)
  pub task_commit_begins : (w : Script) (minimum : ℕ) (a : Who) (k : Known)
      → let p = task_of w minimum a k in at_work w minimum a k (task_commit_start (task_script p) (who_of p)) ≡ at_work w minimum a k
      (task_commit_start w a)
  pub task_commit_wants : (g : Setting) (a : Who) (k l : Known) → k.drawn ≡ l.drawn → (t : Retried TaskCommit)
      → task_commit_wants (at_work g.script g.minimum a k t.operation) ≡ asks g a l (TheTaskCommit t)
  pub task_commit_takes : (w : Script) (minimum : ℕ) (a : Who) (k : Known) (t : TaskCommit) (i : Item)
      → task_commit_told (at_work w minimum a k t) i ≡ at_work w minimum a (learned w a k (task_commit_asks w a k t) i)
      (task_commit_after w minimum a t i)
  pub task_commit_goes : (g : Setting) (a : Who) (k : Known) (t : Retried TaskCommit) (o : Outcome)
      → step g.script.retries task_commit_told (planned g.script g.minimum a k t) o ≡ planned g.script g.minimum a
      (known_then g.script a k (asks g a k (TheTaskCommit t)) (heard t o))
      (step g.script.retries (task_commit_after g.script g.minimum a) t o)
  pub task_abort_begins : (w : Script) (minimum : ℕ) (a : Who) (k : Known)
      → let p = task_of w minimum a k in at_work w minimum a k (task_abort_start (task_script p) k) ≡ at_work w minimum a k
      (task_abort_start w k)
  pub task_abort_wants : (g : Setting) (a : Who) (k l : Known) (t : Retried TaskAbort)
      → task_abort_wants (at_work g.script g.minimum a k t.operation) ≡ asks g a l (TheTaskAbort t)
  pub task_abort_takes : (w : Script) (minimum : ℕ) (a : Who) (k : Known) (t : TaskAbort) (i : Item)
      → task_abort_told (at_work w minimum a k t) i ≡ at_work w minimum a (learned w a k (task_abort_asks w a t) i) (task_abort_after w t i)
  pub task_abort_goes : (g : Setting) (a : Who) (k : Known) (t : Retried TaskAbort) (o : Outcome)
      → step g.script.retries task_abort_told (planned g.script g.minimum a k t) o ≡ planned g.script g.minimum a
      (known_then g.script a k (asks g a k (TheTaskAbort t)) (heard t o)) (step g.script.retries (task_abort_after g.script) t o)
  pub setup_wants : (g : Setting) (a : Who) (l : Known) (t : Retried Setup)
      → setup_wants (driving g.script t.operation) ≡ asks g a l (TheSetup t)
  pub setup_takes : (w : Script) (t : Setup) (i : Item) → setup_told (driving w t) i ≡ driving w (setup_after w t i)
  pub setup_goes : (g : Setting) (t : Retried Setup) (o : Outcome)
      → step g.script.retries setup_told (driven g.script t) o ≡ driven g.script (step g.script.retries (setup_after g.script) t o)
  pub clean_wants : (g : Setting) (a : Who) (l : Known) (t : Retried Clean)
      → clean_wants (driving g.script t.operation) ≡ asks g a l (TheClean t)
  pub clean_takes : (w : Script) (t : Clean) (i : Item) → clean_told (driving w t) i ≡ driving w (clean_after w t i)
  pub clean_goes : (g : Setting) (t : Retried Clean) (o : Outcome)
      → step g.script.retries clean_told (driven g.script t) o ≡ driven g.script (step g.script.retries (clean_after g.script) t o)
  pub job_begins : (w : Script) → IsLegal w → (missing : Option ℕ)
      → committing w [] (commit_start (read_script (job_of w) []) missing) ≡ committing w [] (commit_start w missing)
  pub job_wants : (g : Setting) (m : Told) → IsLegal g.script → (picked : List ℕ) (c : Commit)
      → FitsJobCommit g.script g.minimum m.publish_sent m.drawn c → (a : Who) (l : Known)
      → commit_wants (committing g.script picked c) ≡ asks g a l (TheCommit c)
  pub job_goes : (g : Setting) (s : Scene) (last : ℕ → Option ℕ) (m : Told) → IsLegal g.script → Facts g.script g.minimum s last m
      → s.content.next ≤ 2 ^ 64 → (picked : List ℕ) (c : Commit) → FitsJobCommit g.script g.minimum m.publish_sent m.drawn c
      → (r : Request) → commit_asks g.script c ≡ Some r → (o : Outcome) → IsHonestOutcome o (answer s r)
      → commit_told (committing g.script picked c) o ≡ committing g.script (picked_after picked c o) (commit_tells g.script c o)

-- ---- requests of others

-- Requests of others change nothing that is known of an attempt, and so nothing of its operation.
pub record OthersLeave : Type 0 where
  pub attempts : (w : Script) (m : Told) (a b : Who) → (a ≡ b → ⊥) → (n : ℕ) (r : Request) (o : Outcome)
      → IsSameTold m (tell w m (entry b n r o)) a
  pub driver : (w : Script) (m : Told) (a : Who) (n : ℕ) (r : Request) (o : Outcome) → IsSameTold m (tell w m (driver_entry n r o)) a
  pub strangers : (w : Script) (m : Told) (a : Who) (n : ℕ) (r : Request) (o : Outcome) → IsSameTold m (tell w m (strange_entry n r o)) a
  pub fits : (w : Script) (minimum : ℕ) (m now : Told) (a : Who) → IsSameTold m now a → (op : Operation) → Fits w minimum a m op
      → Fits w minimum a now op
