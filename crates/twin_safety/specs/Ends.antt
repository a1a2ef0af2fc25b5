-- How the commit of a job ends that shares its destination, whatever the others send: by a missing task, by its check, or as that of a job
-- alone.
use Rattle.job_model.specs.Attempts.{Who}
use Rattle.job_model.specs.JobScript.{Script}
use Rattle.job_model.specs.declared.ends.CheckEnd.{CheckEnd}
use Rattle.job_model.specs.declared.ends.CheckEnd.TheVariants.{Clear}
use Rattle.job_model.specs.declared.ends.CommitEnd.{CommitEnd}
use Rattle.job_protocol.specs.JobCommits.{CommitOver}
use Rattle.job_protocol.specs.Operations.{TheCheck, TheCommit}
use Rattle.job_protocol.specs.Rechecks.{Check, CheckOver}
use Rattle.job_protocol.specs.Seen.{Times, is_begun}
use Rattle.job_spec.specs.Ends.{CommitEnded, is_driver}
use Rattle.protocol_runs.specs.Runs.{Stand}
use Rattle.retries.specs.Retries.{Retried}
use Rattle.retries.specs.Worn.{WornFirst}
use Rattle.s3_types.specs.declared.journal.Entry.{Entry}
use Rattle.s3_types.specs.declared.request.Mode.{Mode}
use Rattle.s3_types.specs.declared.request.Mode.TheVariants.{Fail}
use Rattle.s3_types.specs.declared.request.Request.{Request}
use Rattle.std.specs.List.{filter}
use Rattle.std.specs.Prelude.{Bool, List, None, Option, Some, not, ℕ, [], ◌&&◌, ◌++◌, ◌≡◌}
use Rattle.twin_facts.specs.Spared.{InEachShared}
use Rattle.twin_safety.specs.Checks.{CheckIs, Checked}

-- The entry is the driver's, from the beginning of the commit until an abort or clean begins: it belongs to the commit or its check.
abbrev pub is_commits : Times → Entry → Bool
is_commits k e = is_driver e.actor && (is_begun k.commit e.event && not (is_begun k.clean e.event))

-- The entries of the commit and its check.
abbrev pub commit_entries : Times → List Entry → List Entry
commit_entries k = filter (is_commits k)

-- In the mode fail, if no task was missing, these are the entries of a check that found nothing. Else there was no check.
abbrev pub IsCleared : Mode → Option ℕ → Script → List Who → List Entry → Type 0
IsCleared Fail None w reported checks = (t : Retried Check) × Checked w reported checks t × (t.operation ≡ CheckOver Clear)
    × WornFirst w.retries checks None
IsCleared _ missing w reported checks = checks ≡ []

-- The check ended the commit: the mode is fail, no request but the check's was sent, and the check ended so.
pub record ByCheck (w : Script) (k : Times) (es : List Entry) (end : CheckEnd) : Type 0 where
  pub fails : w.mode ≡ Fail
  pub worn : Option Request
  pub first : WornFirst w.retries (commit_entries k es) worn
  pub is : CheckIs w (commit_entries k es) worn end

-- The commit went on after its check, if it had one. It ended as is due of a job alone, by the missing task, the first of its requests that
-- ran out of retries, and the picks.
pub record BehindCheck (w : Script) (k : Times) (es : List Entry) (x : Stand) (end : CommitEnd) : Type 0 where
  pub missing : Option ℕ
  pub reported : List Who
  pub checks : List Entry
  pub entries : commit_entries k es ≡ checks ++ x.commit
  pub cleared : IsCleared w.mode missing w reported checks
  pub ended : CommitEnded w x.seen missing x.commit end

-- In every run of such a job, each commit that has ended did so by its check or after it.
pub record SharedCommitsEnd : Type 0 where
  pub checks : InEachShared (λ g k opening es x. (t : Retried Check) (end : CheckEnd) → x.driver ≡ Some (TheCheck t)
      → t.operation ≡ CheckOver end → ByCheck g.script k es end)
  pub commits : InEachShared (λ g k opening es x. (end : CommitEnd) → x.driver ≡ Some (TheCommit (CommitOver end))
      → BehindCheck g.script k es x end)
