-- The conditions on operations besides the facts hold on.
use Rattle.text_and_lists.specs.Members.{IsIn}
use Rattle.job_invariant.proofs.Going.{step_so}
use Rattle.job_invariant.proofs.Ordered.{order_each}
use Rattle.job_invariant.specs.Driver.{FitsJobCommit}
use Rattle.job_invariant.specs.Facts.{Hold}
use Rattle.job_invariant.specs.Told.{Told}
use Rattle.job_model.specs.Attempts.{Who}
use Rattle.job_model.specs.Files.{File}
use Rattle.job_model.specs.JobScript.{Script}
use Rattle.job_protocol.specs.JobCommits.{Commit, Fetching}
use Rattle.job_protocol.specs.Outputs.{files}
use Rattle.job_protocol.specs.Seen.{Seen}
use Rattle.job_protocol.specs.TaskCommits.{Looking, TaskCommit, looked, reading, task_commit_after, task_commit_hears, task_commit_start}
use Rattle.job_refinement.specs.Due.{AllPublished, ReadsOwn, SetStands}
use Rattle.list_walk.specs.Walks.{Walked, walked}
use Rattle.retries.specs.Retries.{Retried, step}
use Rattle.s3_types.specs.declared.journal.Outcome.{Outcome}
use Rattle.s3_types.specs.declared.reply.Reply.{Reply}
use Rattle.std.proofs.Common.{Bool, List, arith, false, length, ℕ, ◌≡◌}

-- ---- the records that a task commit reads

module _ (w : Script) (a : Who) where
  own_reading : (cs fs : List File) → ((f : File) → IsIn f fs → IsIn f (files w a)) → ReadsOwn w a (reading cs fs)
  own_reading cs fs own = grind arith

  own_looked : (v : Walked (List ℕ)) → ReadsOwn w a (looked w a v)
  own_looked v = grind (arith, own_reading, order_each)

  own_heard : (minimum : ℕ) (t : TaskCommit) (x : Reply) (repeated : Bool) → ReadsOwn w a t
      → ReadsOwn w a (task_commit_hears w minimum a t x repeated)
  own_heard minimum (Looking keys) x repeated own = own_looked (walked keys x)
  own_heard minimum _ x repeated own = grind arith

pub reads_begin : (w : Script) (a : Who) → ReadsOwn w a (task_commit_start w a)
reads_begin w a = grind arith

pub reads_go : (w : Script) (minimum retries : ℕ) (a : Who) (t : Retried TaskCommit) (o : Outcome) → ReadsOwn w a t.operation
    → ReadsOwn w a (step retries (task_commit_after w minimum a) t o).operation
reads_go w minimum retries a t o own = step_so retries (task_commit_after w minimum a) t o (ReadsOwn w a)
    (λ x e. own_heard w a minimum t.operation x t.repeated own) (λ none. own) (λ none. tt)

-- ---- sets that exist

pub set_stands : (w : Script) (minimum : ℕ) (s : Seen) (m : Told) (c : Commit) → Hold w minimum s m
    → FitsJobCommit w minimum m.publish_sent m.drawn c → m.cleaned ≡ false → AllPublished w s → SetStands w s c
set_stands w minimum s m (Fetching sets n) h fits cleaned all = let last = all (length sets) fits.0 in h.standing cleaned (length sets)
    last.0 fits.0 last.1
set_stands w minimum s m _ h fits cleaned all = tt
