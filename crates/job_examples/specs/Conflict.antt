-- Two jobs at one destination. The first has the directory committer and the mode fail. The other job's file exists before its commit.
use Rattle.job_examples.specs.FourFileLanes.{completes, out}
use Rattle.job_examples.specs.Jobs.{attempt, commits_at, hello_tag, job, lake, said, setting, worker}
use Rattle.job_examples.specs.OneFile.{opening}
use Rattle.job_examples.specs.Runs.{hello, set_of, upload}
use Rattle.job_examples.specs.TwoJobs.{below_attempt, jb, mark_bytes, marks, mine, pending, prepares, reads, set_bytes, set_key}
use Rattle.job_examples.specs.TwoMagic.{AllStrange, drew_first, drew_second, sided}
use Rattle.job_model.specs.JobScript.{Script}
use Rattle.job_model.specs.declared.ends.CheckEnd.TheVariants.{Conflict}
use Rattle.job_model.specs.declared.ends.OpEnd.{OpEnd}
use Rattle.job_model.specs.declared.events.Event.TheVariants.{Do}
use Rattle.job_protocol.specs.Operations.{Operation, Setting, asks, commit_of, over, tells, who}
use Rattle.protocol_runs.specs.Runs.{nothing_learnt}
use Rattle.pending_json.specs.Trees.{set_tree}
use Rattle.pending_json.specs.declared.records.PendingSet.{PendingSet}
use Rattle.s3_types.specs.Moment.{IsHonest}
use Rattle.s3_types.specs.declared.journal.Entry.{Entry}
use Rattle.s3_types.specs.declared.journal.Outcome.TheVariants.{Answered}
use Rattle.s3_types.specs.declared.reply.PageEntry.TheVariants.{Object as Listed}
use Rattle.s3_types.specs.declared.reply.Refusal.TheVariants.{NoSuchKey}
use Rattle.s3_types.specs.declared.reply.Reply.{Reply}
use Rattle.s3_types.specs.declared.reply.Reply.TheVariants.{ClusterDone, Deleted, Page, Part, Refused, Upload}
use Rattle.s3_types.specs.declared.request.Actor.TheVariants.{Driver}
use Rattle.s3_types.specs.declared.request.Committer.TheVariants.{Directory}
use Rattle.s3_types.specs.declared.request.Mode.TheVariants.{Fail}
use Rattle.s3_types.specs.declared.request.Request.TheVariants.{ClusterPut, ClusterRename, CreateUpload, DeleteObject, HeadObject, ListPage}
use Rattle.s3_types.specs.declared.request.Request.TheVariants.{UploadPart}
use Rattle.serde_json.specs.Written.{compact_text}
use Rattle.std.specs.Prelude.{List, None, Option, Some, codes, false, length, true, ℕ, [], ◌++◌, ◌∷◌, ◌≡◌}
use Rattle.twin_facts.specs.Events.{AtMoment}
use Rattle.twin_facts.specs.Sides.{Second, TwinEntry}
use Rattle.twin_facts.specs.TwinLaws.{is_marked_by}
use Rattle.job_model.specs.declared.events.Op.TheVariants as ops
use Rattle.job_model.specs.declared.ends.OpEnd.TheVariants as ends

-- The first job, with the file `x`.
abbrev pub ja : Script
ja = record (job Directory Fail 1 3 1 (attempt 0 0 ((codes "x", codes "hello") ∷ []) ∷ [])
    (Do Driver ops.Setup ∷ Do worker ops.Write ∷ Do worker ops.Commit ∷ Do Driver ops.Commit ∷ [])) { job = codes "ja" }

-- The set of `ja`, which has no sizes.
abbrev pub the_set : PendingSet
the_set = record (set_of 0 0 (record (upload hello 0 0 (codes "x") 1) { sizes = None } ∷ [])) { job = codes "ja" }

-- The text of the set.
abbrev pub bytes : List ℕ
bytes = compact_text (set_tree the_set)

-- The cluster path of the attempt's temporary file.
abbrev pub temporary : List ℕ
temporary = codes "jobs/ja/tmp/0_0.pendingset"

-- The listing below the destination after jb's commit.
abbrev pub page : Reply
page = Page (
    Listed (codes "out/_SUCCESS") (length (mark_bytes (codes "jb") (codes "y")))
    ∷ Listed (set_key (codes "jb")) (length (set_bytes (codes "jb") (codes "y") 2))
    ∷ Listed (below_attempt (codes "jb") (codes "y")) 0
    ∷ Listed (pending (codes "jb") (codes "y")) 168
    ∷ Listed (out (codes "y")) 5
    ∷ []) false

-- The journal: three events of ja, four of jb, and one of ja.
abbrev pub journal : List Entry
journal =
    said 1 Driver (HeadObject lake (codes "out")) (Refused NoSuchKey)
    ∷ said 1 Driver (ListPage lake (codes "out/") false [] 1000) (Page [] false)
    ∷ said 1 Driver (DeleteObject lake (codes "out/_SUCCESS")) Deleted
    ∷ said 3 worker (CreateUpload lake (out (codes "x"))) (Upload 1)
    ∷ said 3 worker (UploadPart lake (out (codes "x")) 1 1 (codes "hello")) (Part hello_tag)
    ∷ said 3 worker (ClusterPut temporary bytes) ClusterDone
    ∷ said 3 worker (ClusterRename temporary (codes "jobs/ja/sets/task_0.pendingset")) ClusterDone
    ∷ (prepares (codes "jb") (codes "y") 2 4 ++ reads (codes "jb") (codes "y") 2 7 ∷ completes 7 (codes "y") 2 ∷ marks (codes "jb")
    (codes "y") 7 ∷ said 8 Driver (ListPage lake (codes "out/") false [] 1000) page ∷ [])

-- The journal, with the side of each entry.
abbrev pub entries : List TwinEntry
entries = sided mine journal

-- Holds if readers see what two jobs promise after the first m entries.
abbrev pub Stands : ℕ → Type 0
Stands m = AtMoment ja jb (commits_at 8) (commits_at 7) opening entries m

-- What stays the same in the run of ja, whose destination jb shares.
abbrev pub shared : Setting
shared = record (setting ja) { shared = true }

-- The commit of ja as it begins, with the report of its attempt.
abbrev pub begun : Operation
begun = commit_of shared (record { missing = None; attempts = who worker ∷ [] })

-- How the commit ends if its first request gets this reply, or none if it goes on.
abbrev pub told : Reply → Option OpEnd
told reply = over (tells shared (who Driver) begun (Answered reply))

-- The commit of ja ends with the conflict, and readers see what two jobs promise.
pub record FoundConflict : Type 0 where
  pub sent : length journal ≡ 21
  pub honest : IsHonest opening journal
  pub apart : AllStrange ja jb drew_first drew_second entries
  -- The commit checks the destination first, and finds jb's file.
  pub looks : asks shared (who Driver) nothing_learnt begun ≡ Some (ListPage lake (codes "out/") false [] 1000)
  pub found : told page ≡ Some (ends.Check (Conflict (codes "y")))
  -- It finds none if nothing is listed.
  pub free : (p : List ℕ) → told (Page [] false) ≡ Some (ends.Check (Conflict p)) → ⊥
  pub none : Stands 18
  pub one : Stands 19
  pub marked : Stands 20
  pub whole : Stands 21
  pub by_second : is_marked_by jb Second false entries ≡ true
