-- A property of each operation with which a commit, a commit after its check, or an abort or clean of a job may begin.
use Rattle.job_model.specs.declared.ends.CheckEnd.TheVariants.{Clear}
use Rattle.job_protocol.specs.Cleanups.{clean_start}
use Rattle.job_protocol.specs.JobCommits.{commit_start}
use Rattle.job_protocol.specs.Operations.{Operation, Reports, Setting, TheCheck, TheClean, TheCommit, TheSparing, after_check}
use Rattle.job_protocol.specs.Operations.{after_check_by, clean_of, commit_by, commit_of}
use Rattle.job_protocol.specs.Rechecks.{Check, CheckOver}
use Rattle.job_protocol.specs.Sparing.{sparing_start}
use Rattle.retries.specs.Retries.{Retried, fresh}
use Rattle.s3_types.specs.declared.request.Mode.{Mode}
use Rattle.s3_types.specs.declared.request.Mode.TheVariants.{Fail}
use Rattle.std.proofs.Common.{Bool, None, Option, ap, cond, false, true, ℕ, ◌≡◌}

module _ (g : Setting) (P : Operation → Type 0) where
  pub after_check_so : P (TheCommit (commit_start g.script None)) → ((t : Retried Check) → P (TheCheck t)) → (t : Retried Check)
      → P (after_check g t)
  after_check_so commit check t = elim t.operation as (λ c. P (after_check_by g t c)) [ CheckOver Clear ↦ commit | _ ↦ check t ]

  pub commit_of_so : ((missing : Option ℕ) → P (TheCommit (commit_start g.script missing))) → ((t : Retried Check) → P (TheCheck t))
      → (r : Reports) → P (commit_of g r)
  commit_of_so commit check r = by g.shared g.script.mode r.missing
    where
      by : (b : Bool) (m : Mode) (o : Option ℕ) → P (commit_by g b m r o)
      by true Fail None = after_check_so (commit None) check _
      by b m o = commit o

  pub clean_of_so : P (TheClean (fresh g.script.retries clean_start))
      → P (TheSparing (fresh g.script.retries (sparing_start g.script.committer))) → P (clean_of g)
  clean_of_so clean sparing = elim g.shared as (λ b. P (cond b (TheSparing (fresh g.script.retries (sparing_start g.script.committer)))
      (TheClean (fresh g.script.retries clean_start)))) [ true ↦ sparing | false ↦ clean ]

-- Without another job the commit begins at once.
pub commit_alone : (g : Setting) (r : Reports) → g.shared ≡ false → commit_of g r ≡ TheCommit (commit_start g.script r.missing)
commit_alone g r e = ap (λ b. commit_by g b g.script.mode r r.missing) e

-- Without another job an abort or clean is not a sparing one.
pub clean_alone : (g : Setting) → g.shared ≡ false → clean_of g ≡ TheClean (fresh g.script.retries clean_start)
clean_alone g e = ap (λ b. cond b (TheSparing (fresh g.script.retries (sparing_start g.script.committer)))
    (TheClean (fresh g.script.retries clean_start))) e
