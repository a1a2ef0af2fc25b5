-- How the driver's operations end in a run of a job that shares its destination.
use Rattle.job_model.specs.JobScript.{Script}
use Rattle.job_model.specs.Legal.{IsLegal}
use Rattle.job_model.specs.declared.ends.CheckEnd.{CheckEnd}
use Rattle.job_model.specs.declared.ends.CleanEnd.{CleanEnd}
use Rattle.job_model.specs.declared.ends.CommitEnd.{CommitEnd}
use Rattle.job_model.specs.declared.ends.EventEnd.{EventEnd}
use Rattle.job_protocol.specs.Operations.{Setting}
use Rattle.job_protocol.specs.Seen.{Seen}
use Rattle.job_spec.specs.Ends.{CommitEnded, EndedIn}
use Rattle.job_spec.specs.OperationEnds.{CleanIs, CommitServed}
use Rattle.job_spec.specs.Promise.{seen_until}
use Rattle.job_spec.specs.States.{Doing}
use Rattle.job_spec.specs.Turns.{AllBy, before, own, since, until}
use Rattle.script_steps.specs.Transitions.{Play, Reachable}
use Rattle.protocol_runs.specs.Runs.{IsOpening}
use Rattle.retries.specs.Worn.{WornFirst}
use Rattle.s3_types.specs.Moment.{moment}
use Rattle.s3_types.specs.Store.{Content}
use Rattle.s3_types.specs.declared.journal.Entry.{Entry}
use Rattle.s3_types.specs.declared.request.Actor.TheVariants.{Driver}
use Rattle.s3_types.specs.declared.request.Mode.TheVariants.{Fail}
use Rattle.s3_types.specs.declared.request.Request.{Request}
use Rattle.std.specs.Prelude.{List, None, Option, length, true, ℕ, ◌++◌, ◌+◌, ◌≡◌, ◌⊎◌}
use Rattle.twin_facts.specs.Spared.{SparingLeaves}
use Rattle.twin_safety.specs.Checks.{CheckIs}
use Rattle.twin_safety.specs.Ends.{IsCleared}
use Rattle.job_model.specs.declared.ends.CheckEnd.TheVariants as check_ends
use Rattle.job_model.specs.declared.ends.CommitEnd.TheVariants as commit_ends
use Rattle.job_model.specs.declared.ends.CleanEnd.TheVariants as clean_ends
use Rattle.job_model.specs.declared.ends.OpEnd.TheVariants as ends

-- The commit went on after its check, if it had one. It ended as is due of a job alone, by the missing task, the first of its requests that
-- ran out of retries, and the picks.
pub record EndedBehind (w : Script) (s : Seen) (d : Doing) (es : List Entry) (e : CommitEnd) : Type 0 where
  -- The entries of the check come first, and it found nothing.
  pub checks : List Entry
  pub own : List Entry
  pub entries : es ≡ checks ++ own
  pub cleared : IsCleared w.mode d.reports.missing w d.reports.attempts checks
  pub ended : CommitEnded w s d.reports.missing own e
  -- Each answered read of a task's set gave one, and a completion was refused only if an earlier send of it was lost.
  pub served : CommitServed w own

-- How the driver's commit ends, unless it ran out of memory.
abbrev pub SharedCommits : Script → Content → List Entry → List EventEnd → Type 0
SharedCommits w opening journal xs = (j : ℕ) (d : Doing) (e : CommitEnd) (es : List Entry)
    → EndedIn w xs journal j Driver d (ends.Commit e) es
    → (e ≡ commit_ends.NoMemory) ⊎ EndedBehind w (seen_until w opening journal xs (j + 1)) d es e

-- How a commit ends that its check ended, unless that ran out of memory: the mode is fail, no task was missing, and the check ended so by
-- its entries.
abbrev pub SharedChecks : Script → List Entry → List EventEnd → Type 0
SharedChecks w journal xs = (j : ℕ) (d : Doing) (e : CheckEnd) (es : List Entry) → EndedIn w xs journal j Driver d (ends.Check e) es
    → (e ≡ check_ends.NoMemory) ⊎ ((w.mode ≡ Fail) × (d.reports.missing ≡ None) × (worn : Option Request) × WornFirst w.retries es worn
    × CheckIs w es worn e)

-- How the driver's abort or clean ends. If it is Done and none of the job's attempts has sent since it began, no upload lives that the
-- job's records or sets named then, and nothing is left in the job's directory.
abbrev pub SharedCleans : Script → Content → List Entry → List EventEnd → Type 0
SharedCleans w opening journal xs = (j : ℕ) (d : Doing) (e : CleanEnd) (es : List Entry) → EndedIn w xs journal j Driver d (ends.Clean e) es
    → ((e ≡ clean_ends.NoMemory) ⊎ ((worn : Option Request) × WornFirst w.retries es worn × CleanIs worn e))
    × (e ≡ clean_ends.Done → AllBy Driver (own (since d.since (until (j + 1) journal)))
    → SparingLeaves w (moment opening journal (length (before d.since journal)))
    (moment opening journal (length (until (j + 1) journal))))

-- How the driver's operations end, whatever strangers send.
pub record SharedKept (g : Setting) (opening : Content) (journal : List Entry) (xs : List EventEnd) : Type 0 where
  pub commits : SharedCommits g.script opening journal xs
  pub checks : SharedChecks g.script journal xs
  pub cleans : SharedCleans g.script opening journal xs

-- At each point between two events of a run at a shared destination, all of this holds.
abbrev pub RunsAreKeptShared : Type 0
RunsAreKeptShared = (g : Setting) → (opening : Content) (x : Play) → IsLegal g.script → IsOpening g opening → Reachable g opening x
    → x.now ≡ None → g.shared ≡ true → SharedKept g opening x.journal x.ends
