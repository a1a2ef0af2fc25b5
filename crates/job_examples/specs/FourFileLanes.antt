-- A job of one attempt with four files in lanes: its scripts, the entries of its commits, and the claims about its runs.
use Rattle.text_and_lists.specs.Order.{text_eq}
use Rattle.job_examples.specs.FourFiles.{attempt_entries, of_file, the_set}
use Rattle.job_examples.specs.Jobs.{attempt, directory, doing, entry, hello_tag, job, lake, said, set_key, setting, worker}
use Rattle.job_examples.specs.OneFile.{opening}
use Rattle.job_examples.specs.Runs.{reads_set}
use Rattle.job_model.specs.Files.{File}
use Rattle.job_model.specs.JobScript.{Script}
use Rattle.job_model.specs.declared.ends.OpEnd.{OpEnd}
use Rattle.job_model.specs.declared.events.Event.{Event}
use Rattle.job_model.specs.declared.events.Event.TheVariants.{Do}
use Rattle.job_model.specs.declared.events.Op.{Op}
use Rattle.job_protocol.specs.View.{view}
use Rattle.job_spec.specs.Follows.{OpFollows, op_over}
use Rattle.job_spec.specs.Turns.{by_actor, until}
use Rattle.pending_json.specs.Trees.{pending_tree, success_tree}
use Rattle.s3_types.specs.Fates.{FateMap}
use Rattle.s3_types.specs.Moment.{moment}
use Rattle.s3_types.specs.Tags.{joined_tag}
use Rattle.s3_types.specs.declared.journal.Entry.{Entry}
use Rattle.s3_types.specs.declared.journal.Outcome.TheVariants.{ReplyLost}
use Rattle.s3_types.specs.declared.reply.Refusal.TheVariants.{NoSuchUpload}
use Rattle.s3_types.specs.declared.reply.Reply.TheVariants.{Completed, Refused}
use Rattle.s3_types.specs.declared.request.Actor.{Actor}
use Rattle.s3_types.specs.declared.request.Actor.TheVariants.{Driver}
use Rattle.s3_types.specs.declared.request.Committer.TheVariants.{Magic}
use Rattle.s3_types.specs.declared.request.Mode.TheVariants.{Append}
use Rattle.s3_types.specs.declared.request.Request.{Request}
use Rattle.s3_types.specs.declared.request.Request.TheVariants.{CompleteUpload}
use Rattle.serde_json.specs.Written.{compact_text}
use Rattle.std.specs.Map.{lookup}
use Rattle.std.specs.Prelude.{List, None, Option, Some, codes, ℕ, [], ◌++◌, ◌∷◌, ◌≡◌}
use Rattle.job_model.specs.declared.events.Op.TheVariants as ops
use Rattle.job_model.specs.declared.ends.SetupEnd.TheVariants as setups
use Rattle.job_model.specs.declared.ends.TaskEnd.TheVariants as tasks
use Rattle.job_model.specs.declared.ends.OpEnd.TheVariants as ends

-- ---- the job

-- The attempt's files.
abbrev pub four : List File
four = (codes "a", codes "hello") ∷ (codes "b", codes "hello") ∷ (codes "c", codes "hello") ∷ (codes "d", codes "hello") ∷ []

-- The job's script with these retries, lanes, fates and further events.
abbrev pub script : ℕ → ℕ → FateMap → List Event → Script
script retries lanes fates events = record (job Magic Append 1 retries lanes (attempt 0 0 four ∷ [])
    (Do Driver ops.Setup ∷ Do worker ops.Write ∷ Do worker ops.Commit ∷ events)) { fates = fates }

-- ---- keys and records

-- The key of a file.
abbrev pub out : List ℕ → List ℕ
out name = codes "out/" ++ name

-- The key of a file's marker.
abbrev pub below_attempt : List ℕ → List ℕ
below_attempt name = directory ++ name

-- The key of a file's record.
abbrev pub pending : List ℕ → List ℕ
pending name = below_attempt (name ++ codes ".pending")

-- The text of a file's record.
abbrev pub record_bytes : List ℕ → ℕ → List ℕ
record_bytes name id = compact_text (pending_tree (of_file name id))

-- The text of `_SUCCESS`.
abbrev pub mark_bytes : List ℕ
mark_bytes = compact_text (success_tree (record {
  job = codes "j1";
  committer = Magic;
  files = codes "a" ∷ codes "b" ∷ codes "c" ∷ codes "d"
      ∷ [];
  stamp = None;
}))

-- ---- the entries of a commit

-- The entries up to the driver's read of the set in event k, send 26.
abbrev pub read_entries : ℕ → List Entry
read_entries k = attempt_entries ++ reads_set k set_key the_set ∷ []

-- The completion of a file's upload.
abbrev pub completion : List ℕ → ℕ → Request
completion name id = CompleteUpload lake (out name) id (record { number = 1; tag = hello_tag } ∷ [])

-- The completion of a file's upload is answered.
abbrev pub completes : ℕ → List ℕ → ℕ → Entry
completes k name id = said k Driver (completion name id) (Completed (joined_tag (hello_tag ∷ [])))

-- The reply to the completion of a file's upload is lost.
abbrev pub loses : ℕ → List ℕ → ℕ → Entry
loses k name id = entry k Driver (completion name id) ReplyLost

-- A repeated completion finds no upload.
abbrev pub finds_none : ℕ → List ℕ → ℕ → Entry
finds_none k name id = said k Driver (completion name id) (Refused NoSuchUpload)

-- ---- claims about a run

-- Holds if readers see exactly these files after the first m entries.
abbrev pub Shows : Script → List Entry → ℕ → List File → Type 0
Shows w journal m files = (p : List ℕ) → view w.dest (moment opening journal m).content p ≡ lookup (text_eq p) files

-- Files with these names, each with the contents `hello`.
abbrev pub hellos : List (List ℕ) → List File
hellos [] = []
hellos (n ∷ ns) = (n, codes "hello") ∷ hellos ns

-- Holds if the actor's entries up to event `upto` are the requests of its operation, which began in event k, and the operation ends so.
abbrev pub Goes : Script → List Entry → Actor → Op → ℕ → Option ℕ → ℕ → Option OpEnd → Type 0
Goes w journal a op k missing upto end = OpFollows (setting w) a (doing op k missing) (by_actor a (until upto journal))
    × (op_over (setting w) a (doing op k missing) (by_actor a (until upto journal)) ≡ end)

-- The set-up, the write and the task's commit send their requests and are Done, whatever retries, lanes and later events the job has.
pub record Prepared (w : Script) (journal : List Entry) : Type 0 where
  pub setup : Goes w journal Driver ops.Setup 1 (Some 0) 1 (Some (ends.Setup setups.Done))
  pub write : Goes w journal worker ops.Write 2 (Some 0) 2 (Some (ends.Task tasks.Done))
  pub task : Goes w journal worker ops.Commit 3 (Some 0) 3 (Some (ends.Task tasks.Done))
