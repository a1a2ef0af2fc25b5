-- The laws of what exists until the driver's abort or clean of the job begins.
use Rattle.job_invariant.specs.Driver.{FitsClean, FitsJobCommit}
use Rattle.job_invariant.specs.Facts.{Hold, IsAttempt, IsSet}
use Rattle.job_invariant.specs.Fits.{Fits}
use Rattle.job_invariant.specs.Foreign.{IsForeign}
use Rattle.job_invariant.specs.Standing.{Closed, CommitStands, Reverts, Stands, WriteStands}
use Rattle.job_invariant.specs.Stores.{sets_at}
use Rattle.job_invariant.specs.Told.{Told, driver_entry, entry, known, nothing_told, strange_entry, tell}
use Rattle.job_model.specs.Attempts.{Who}
use Rattle.job_model.specs.JobScript.{Script}
use Rattle.job_model.specs.Legal.{IsLegal}
use Rattle.job_protocol.specs.Cleanups.{Clean, clean_asks}
use Rattle.job_protocol.specs.JobCommits.{Commit, commit_asks, commit_start, commit_tells}
use Rattle.job_protocol.specs.LaneTable.{Tabled}
use Rattle.job_protocol.specs.Operations.{Operation, Setting, asks, tells}
use Rattle.job_protocol.specs.Seen.{Seen, Times, is_begun, see}
use Rattle.job_protocol.specs.TaskCommits.{TaskCommit, TaskCommitOver, task_commit_over, task_commit_start}
use Rattle.job_protocol.specs.Writes.{Write, WriteOver, write_over, write_start}
use Rattle.s3_types.specs.Answer.{answer}
use Rattle.s3_types.specs.Moment.{IsHonestOutcome}
use Rattle.s3_types.specs.declared.journal.Outcome.{Outcome}
use Rattle.s3_types.specs.declared.request.Request.{Request}
use Rattle.std.specs.Prelude.{Bool, List, Option, Some, false, true, ℕ, ◌≡◌}
use Rattle.job_model.specs.declared.ends.TaskEnd.TheVariants as tasks

-- Until it cleans up, the driver ends only uploads of attempts that have sent their publishing requests. The law needs that the numbers in
-- a commit's lanes are those of uploads (`Tabled`, which `job_protocol` keeps). An entry of a stranger says nothing here.
pub record DriverCloses : Type 0 where
  pub begins : (c : Option ℕ) → Closed (nothing_told c)
  pub starts : (w : Script) (m : Told) (missing : Option ℕ) → Reverts m.publish_sent m.drawn (commit_start w missing)
  pub commit : (g : Setting) → IsLegal g.script → (s : Seen) (m : Told) → Hold g.script g.minimum s m → Closed m → (c : Commit)
      → FitsJobCommit g.script g.minimum m.publish_sent m.drawn c → Tabled g.script c → Reverts m.publish_sent m.drawn c
      → (r : Request) → commit_asks g.script c ≡ Some r → (n : ℕ) (o : Outcome)
      → let now = tell g.script m (driver_entry n r o) in Closed now × Reverts now.publish_sent now.drawn (commit_tells g.script c o)
  pub clean : (w : Script) (m : Told) (t : Clean) → FitsClean w m.cleaned t → (r : Request) → clean_asks w t ≡ Some r → (n : ℕ)
      → is_begun m.cleans_at n ≡ true → (o : Outcome) → Closed (tell w m (driver_entry n r o))
  pub attempt : (g : Setting) (m : Told) (a : Who) (op : Operation) → Fits g.script g.minimum a m op → (r : Request)
      → asks g a (known m a) op ≡ Some r → (n : ℕ) (o : Outcome)
      → let now = tell g.script m (entry a n r o) in (Closed m → Closed now)
      × ((c : Commit) → Reverts m.publish_sent m.drawn c → Reverts now.publish_sent now.drawn c)

-- Until the driver cleans up, what a write or commit of an attempt has written exists, whatever others send. So none ends Gone, and a
-- commit that is done has published.
pub record NothingGone : Type 0 where
  pub write : (w : Script) (s : Seen) (a : Who) → WriteStands w s a (write_start w a)
  pub commit : (w : Script) → IsLegal w → (s : Seen) (a : Who) → WriteStands w s a (WriteOver tasks.Done)
      → CommitStands w s a false (task_commit_start w a)
  -- By its own requests, with each outcome.
  pub goes : (g : Setting) → IsLegal g.script → (k : Times) (s : Seen) (m : Told) (a : Who) (n : ℕ) → Hold g.script g.minimum s m → Closed m
      → m.cleaned ≡ false → (op : Operation) → Fits g.script g.minimum a m op → Stands g.script s a op
      → (r : Request) → asks g a (known m a) op ≡ Some r → (o : Outcome) → IsHonestOutcome o (answer s.scene r)
      → Stands g.script (see g.script k s (entry a n r o)) a (tells g a op o)
  -- By requests of another attempt.
  pub others : (g : Setting) → IsLegal g.script → (k : Times) (s : Seen) (m : Told) (a b : Who) (n : ℕ) → Hold g.script g.minimum s m
      → IsAttempt g.script a → IsAttempt g.script b → (a ≡ b → ⊥) → (op : Operation) → Fits g.script g.minimum b m op
      → (r : Request) → asks g b (known m b) op ≡ Some r → (o : Outcome) → (mine : Operation) → Stands g.script s a mine
      → Stands g.script (see g.script k s (entry b n r o)) a mine
  -- By requests of the driver's commit.
  pub driver : (g : Setting) → IsLegal g.script → (k : Times) (s : Seen) (m : Told) (a : Who) (n : ℕ) → Hold g.script g.minimum s m
      → (c : Commit) → FitsJobCommit g.script g.minimum m.publish_sent m.drawn c
      → (r : Request) → commit_asks g.script c ≡ Some r → (o : Outcome) → (mine : Operation) → Stands g.script s a mine
      → Stands g.script (see g.script k s (driver_entry n r o)) a mine
  -- By requests of a stranger.
  pub strangers : (w : Script) (minimum : ℕ) → IsLegal w → (k : Times) (s : Seen) (m : Told) (a : Who) (n : ℕ) → Hold w minimum s m
      → (r : Request) → IsForeign w m.drawn r → (o : Outcome) → (mine : Operation) → Stands w s a mine
      → Stands w (see w k s (strange_entry n r o)) a mine
  pub never_write : (w : Script) (s : Seen) (a : Who) (t : Write) (name : List ℕ) → WriteStands w s a t
      → write_over t ≡ Some (tasks.Gone name) → ⊥
  pub never_commit : (w : Script) (s : Seen) (a : Who) (repeated : Bool) (t : TaskCommit) (name : List ℕ) → CommitStands w s a repeated t
      → task_commit_over t ≡ Some (tasks.Gone name) → ⊥
  -- The set of its task exists, and is that of the last publisher.
  pub published : (w : Script) (minimum : ℕ) (s : Seen) (m : Told) (a : Who) (repeated : Bool) → Hold w minimum s m → m.cleaned ≡ false
      → IsAttempt w a → CommitStands w s a repeated (TaskCommitOver tasks.Done)
      → (bytes : List ℕ) × (sets_at w s.scene a.task ≡ Some bytes) × IsSet w minimum s.last m.publish_sent m.drawn a.task bytes
