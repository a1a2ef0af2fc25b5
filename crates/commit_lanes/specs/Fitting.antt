-- The outcomes that a job commit may receive.
use Rattle.commit_lanes.specs.ReadSets.{IsSetOf}
use Rattle.job_model.specs.Jobs.{Job, has_task}
use Rattle.job_protocol.specs.AtWork.{Committing}
use Rattle.job_protocol.specs.JobCommits.{Commit, CommitOver, Completing, Fetching, FitsCompletion, Marking, Replacing, Reverting, set_read}
use Rattle.job_protocol.specs.Outputs.{first_where}
use Rattle.list_walk.specs.Fitting.{FitsSweep}
use Rattle.pending_json.specs.declared.records.PendingSet.{PendingSet}
use Rattle.s3_types.specs.declared.journal.Outcome.{Outcome}
use Rattle.s3_types.specs.declared.journal.Outcome.TheVariants.{Answered}
use Rattle.s3_types.specs.declared.reply.Refusal.TheVariants.{NoSuchBucket}
use Rattle.s3_types.specs.declared.reply.Reply.{Reply}
use Rattle.s3_types.specs.declared.reply.Reply.TheVariants.{Refused}
use Rattle.std.specs.Prelude.{List, None, Option, Some, length, not, ℕ, ◌≡◌}
use Rattle.job_model.specs.declared.ends.CommitEnd.TheVariants as ends

-- The answer contains the set of this task.
abbrev pub SpellsSet : Job → ℕ → Option PendingSet → Type 0
SpellsSet j t None = ⊥
SpellsSet j t (Some s) = IsSetOf j t s

-- The commit may receive this answer. The bucket always exists, a page that a sweep lists has keys only, and each task's set is there.
abbrev pub FitsReply : Job → Commit → Reply → Type 0
FitsReply j (Fetching sets m) r = SpellsSet j (length sets) (set_read r)
FitsReply j (Replacing sets p ps s m) r = FitsSweep s r
FitsReply j (Completing sets x xs finished) r = FitsCompletion x r
FitsReply j _ r = r ≡ Refused NoSuchBucket → ⊥

-- An outcome that a job commit may receive.
abbrev pub FitsCommit : Committing → Outcome → Type 0
FitsCommit m (Answered r) = FitsReply m.plan m.operation r
FitsCommit m _ = Unit {0}

-- How many sends of the current request got no answer.
abbrev pub missed_of : Commit → ℕ
missed_of (Fetching sets m) = m
missed_of (Replacing sets p ps s m) = m
missed_of (Completing sets x xs finished) = x.missed
missed_of (Marking sets m) = m
missed_of (Reverting q qs m) = m
missed_of (CommitOver end) = 0

-- The commit after memory ran out.
abbrev pub without_memory : Committing → Committing
without_memory m = record { plan = m.plan; picked = m.picked; operation = CommitOver ends.NoMemory }

-- The lowest task that did not report its commit, if there is one.
abbrev pub least_missing : ℕ → List ℕ → Option ℕ
least_missing tasks reported = first_where (λ t. not (has_task reported t)) 0 tasks
