-- A job of one attempt with one file, from its set-up to its commit.
use Rattle.job_examples.specs.Jobs.{attempt, commits_at, directory, doing, hello_tag, job, lake, said, worker}
use Rattle.job_examples.specs.Runs.{hello, lists, reads_record, writes}
use Rattle.job_model.specs.JobScript.{Script}
use Rattle.job_model.specs.declared.ends.OpEnd.{OpEnd}
use Rattle.job_model.specs.declared.events.Event.TheVariants.{Do}
use Rattle.job_model.specs.declared.events.Op.{Op}
use Rattle.job_model.specs.declared.events.Op.TheVariants.{Commit, Setup, Write}
use Rattle.job_protocol.specs.Conflicts.{keeps_of}
use Rattle.job_protocol.specs.Operations.{Setting}
use Rattle.job_protocol.specs.Outputs.{is_decided, wanted_at}
use Rattle.job_protocol.specs.Seen.{Seen, seen}
use Rattle.job_spec.specs.Ends.{commit_due}
use Rattle.job_spec.specs.Eyes.{in_eyes}
use Rattle.job_spec.specs.Follows.{OpFollows, op_over}
use Rattle.job_spec.specs.Turns.{by_actor, until}
use Rattle.pending_json.specs.Pending.{Pending}
use Rattle.pending_json.specs.Trees.{set_tree, success_tree}
use Rattle.pending_json.specs.declared.records.PendingSet.{PendingSet}
use Rattle.pending_json.specs.declared.records.SuccessMark.{SuccessMark}
use Rattle.s3_types.specs.Store.{Content, new_bucket}
use Rattle.s3_types.specs.Tags.{joined_tag, plain_tag}
use Rattle.s3_types.specs.declared.journal.Entry.{Entry}
use Rattle.s3_types.specs.declared.reply.PageEntry.TheVariants.{Object as Listed}
use Rattle.s3_types.specs.declared.reply.Refusal.TheVariants.{NoSuchKey}
use Rattle.s3_types.specs.declared.reply.Reply.TheVariants.{Completed, Deleted, Object, Page, Refused, Stored}
use Rattle.s3_types.specs.declared.request.Actor.{Actor}
use Rattle.s3_types.specs.declared.request.Actor.TheVariants.{Driver}
use Rattle.s3_types.specs.declared.request.Committer.TheVariants.{Magic}
use Rattle.s3_types.specs.declared.request.Mode.TheVariants.{Append}
use Rattle.s3_types.specs.declared.request.Request.TheVariants.{CompleteUpload, DeleteObject, GetObject, HeadObject, ListPage, PutObject}
use Rattle.serde_json.specs.Written.{compact_text}
use Rattle.std.specs.Prelude.{List, None, Option, Some, codes, false, true, ℕ, [], ◌++◌, ◌∷◌, ◌≡◌}
use Rattle.job_model.specs.declared.ends.SetupEnd.TheVariants as setups
use Rattle.job_model.specs.declared.ends.TaskEnd.TheVariants as tasks
use Rattle.job_model.specs.declared.ends.CommitEnd.TheVariants as commits
use Rattle.job_model.specs.declared.ends.OpEnd.TheVariants as ends
use Rattle.std.specs.FinMap as fin

-- The job's script.
abbrev pub script : Script
script = job Magic Append 1 3 1 (attempt 0 0 ((codes "part-00000", codes "hello") ∷ []) ∷ [])
    (Do Driver Setup ∷ Do worker Write ∷ Do worker Commit ∷ Do Driver Commit ∷ [])

-- The record of the upload.
abbrev pub the_record : Pending
the_record = record {
  task = 0;
  attempt = 0;
  bucket = lake;
  destination = codes "out/part-00000";
  upload = 1;
  length = 5;
  tags = hello_tag ∷
      [];
  sizes = Some (5 ∷ []);
}

-- The task's set.
abbrev pub the_set : PendingSet
the_set = record { job = codes "j1"; task = 0; attempt = 0; commits = the_record ∷ [] }

-- The contents of `_SUCCESS`.
abbrev pub the_mark : SuccessMark
the_mark = record { job = codes "j1"; committer = Magic; files = codes "part-00000" ∷ []; stamp = None }

-- The entries of the set-up.
abbrev pub setup_entries : List Entry
setup_entries =
    said 1 Driver (HeadObject lake (codes "out")) (Refused NoSuchKey)
    ∷ said 1 Driver (DeleteObject lake (codes "out/_SUCCESS")) Deleted
    ∷ said 1 Driver (ListPage lake (codes "out/__magic/job-j1/") false [] 1000) (Page [] false)
    ∷ []

-- The entries of the write.
abbrev pub write_entries : List Entry
write_entries = writes hello 2 worker directory (codes "part-00000") the_record

-- The attempt's put of its task's set.
abbrev pub the_publishing : Entry
the_publishing = said 3 worker (PutObject lake (codes "out/__magic/job-j1/sets/task_0.pendingset") (compact_text (set_tree the_set)) None)
    (Stored (plain_tag (compact_text (set_tree the_set))))

-- The entries of the task's commit.
abbrev pub task_entries : List Entry
task_entries =
    lists 3 worker directory (Listed (directory ++ codes "part-00000") 0 ∷ Listed (directory ++ codes "part-00000.pending") 177 ∷ [])
    ∷ reads_record 3 worker directory (codes "part-00000") the_record
    ∷ the_publishing
    ∷ []

-- The entries before the job's commit.
abbrev pub attempt_entries : List Entry
attempt_entries = setup_entries ++ write_entries ++ task_entries

-- The driver's read of the set.
abbrev pub the_read : Entry
the_read = said 4 Driver (GetObject lake (codes "out/__magic/job-j1/sets/task_0.pendingset"))
    (Object (compact_text (set_tree the_set)) None)

-- The completion of the upload.
abbrev pub the_completion : ℕ → Entry
the_completion k = said k Driver (CompleteUpload lake (codes "out/part-00000") 1 (record { number = 1; tag = hello_tag } ∷ []))
    (Completed (joined_tag (hello_tag ∷ [])))

-- The put of `_SUCCESS`.
abbrev pub the_marking : Entry
the_marking = said 4 Driver (PutObject lake (codes "out/_SUCCESS") (compact_text (success_tree the_mark)) None)
    (Stored (plain_tag (compact_text (success_tree the_mark))))

-- The entries of the job's commit.
abbrev pub commit_entries : List Entry
commit_entries = the_read ∷ the_completion 4 ∷ the_marking ∷ []

-- The run's journal.
abbrev pub journal : List Entry
journal = setup_entries ++ write_entries ++ task_entries ++ commit_entries

-- What stays the same during the run.
abbrev pub setting : Setting
setting = record { script = script; minimum = 5242880; shared = false }

-- Holds if the actor's entries up to its event are the requests of its operation, and the operation ends so.
abbrev pub Goes : Actor → Op → ℕ → Option ℕ → OpEnd → Type 0
Goes a op k missing end = OpFollows setting a (doing op k missing) (by_actor a (until k journal))
    × (op_over setting a (doing op k missing) (by_actor a (until k journal)) ≡ Some end)

-- Each operation sends its requests and ends as it must.
pub record OneFileRuns : Type 0 where
  pub setup : Goes Driver Setup 1 (Some 0) (ends.Setup setups.Done)
  pub write : Goes worker Write 2 (Some 0) (ends.Task tasks.Done)
  pub task : Goes worker Commit 3 (Some 0) (ends.Task tasks.Done)
  pub commit : Goes Driver Commit 4 None (ends.Commit commits.Committed)

-- The store at the start: only the bucket.
abbrev pub opening : Content
opening = record { buckets = fin.insert fin.empty lake new_bucket; next = 1; minimum = 5242880 }

-- What the journal shows after the first m entries.
abbrev pub at : ℕ → Seen
at m = seen script (commits_at 4) opening journal m

-- What it shows if all entries belong to another job.
abbrev pub strange : ℕ → Seen
strange m = seen script (commits_at 4) opening (in_eyes (λ n. false) journal) m

-- What the journal shows after each entry.
pub record OneFileSeen : Type 0 where
  -- The commit begins with the read of the set, the eleventh entry.
  pub not_begun : (at 10).begun ≡ false
  pub begun : (at 11).begun ≡ true
  -- The attempt publishes with the tenth entry, and is chosen by the eleventh.
  pub unpublished : (at 9).last 0 ≡ None
  pub published : (at 10).last 0 ≡ Some 0
  pub unpicked : (at 10).picks 0 ≡ None
  pub picked : (at 11).picks 0 ≡ Some 0
  pub undecided : is_decided script (at 10).picks ≡ false
  pub decided : is_decided script (at 11).picks ≡ true
  -- Only its file is written, and all opening files are kept.
  pub wanted : wanted_at script (at 11).picks (codes "part-00000") ≡ Some (codes "hello")
  pub unwanted : wanted_at script (at 11).picks (codes "other") ≡ None
  pub kept : keeps_of script (at 11).picks (codes "other") ≡ true
  -- The last entry puts `_SUCCESS`. Without a missing task the end is Committed, and otherwise Missing.
  pub unmarked : (at 12).put_mark ≡ false
  pub marked : (at 13).put_mark ≡ true
  pub due : commit_due script (at 13).picks None None ≡ commits.Committed
  pub due_missing : commit_due script (at 13).picks (Some 0) None ≡ commits.Missing 0
  -- Entries of another job change only the store.
  pub no_commit : (strange 13).begun ≡ false
  pub no_publisher : (strange 13).last 0 ≡ None
  pub no_mark : (strange 13).put_mark ≡ false
