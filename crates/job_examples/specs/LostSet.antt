-- The run of one file in which both sends of the set's put lose their replies. The task is not reported, and the job's commit misses it.
use Rattle.job_examples.specs.Jobs.{commits_at, directory, entry, lake, worker}
use Rattle.job_examples.specs.OneFile.{opening, setup_entries, the_record, the_set, write_entries}
use Rattle.job_examples.specs.Runs.{Goes, Keeps, held, lists, reads_record}
use Rattle.job_model.specs.JobScript.{Script}
use Rattle.job_model.specs.declared.ends.EventEnd.{EventEnd}
use Rattle.job_model.specs.declared.ends.EventEnd.TheVariants.{Ended}
use Rattle.job_model.specs.declared.events.Event.TheVariants.{Do}
use Rattle.job_model.specs.declared.events.Op.TheVariants.{Abort, Commit, Setup, Write}
use Rattle.job_protocol.specs.Scope.{upload_at}
use Rattle.job_protocol.specs.Seen.{Seen, seen}
use Rattle.job_protocol.specs.View.{object_at, view}
use Rattle.job_spec.specs.Ends.{commit_due}
use Rattle.job_spec.specs.States.{commit_event, verdict}
use Rattle.job_spec.specs.Turns.{by_actor, since}
use Rattle.pending_json.specs.Trees.{set_tree}
use Rattle.retries.specs.Worn.{first_worn}
use Rattle.s3_types.specs.Moment.{moment}
use Rattle.s3_types.specs.declared.fates.Fate.TheVariants.{After}
use Rattle.s3_types.specs.declared.journal.Entry.{Entry}
use Rattle.s3_types.specs.declared.journal.Outcome.TheVariants.{ReplyLost}
use Rattle.s3_types.specs.declared.reply.PageEntry.TheVariants.{Object as Listed}
use Rattle.s3_types.specs.declared.request.Actor.TheVariants.{Driver}
use Rattle.s3_types.specs.declared.request.Request.{Request}
use Rattle.s3_types.specs.declared.request.Request.TheVariants.{PutObject}
use Rattle.serde_json.specs.Written.{compact_text}
use Rattle.std.specs.Prelude.{List, None, Some, codes, false, length, ℕ, [], ◌++◌, ◌∷◌, ◌≡◌}
use Rattle.std.specs.FinMap as fin
use Rattle.job_model.specs.declared.ends.SetupEnd.TheVariants as setups
use Rattle.job_model.specs.declared.ends.TaskEnd.TheVariants as tasks
use Rattle.job_model.specs.declared.ends.CommitEnd.TheVariants as commits
use Rattle.job_model.specs.declared.ends.OpEnd.TheVariants as ends
use Rattle.job_examples.specs.OneFile as one

-- The job's script. Each request may be sent twice, and the replies to sends 10 and 11 are lost.
abbrev pub script : Script
script = record one.script {
  retries = 1;
  fates = fin.insert (fin.insert fin.empty 10 After) 11 After;
  events = Do Driver Setup ∷ Do worker Write ∷ Do worker Commit ∷ Do worker Abort ∷ Do Driver Commit ∷ [];
}

-- The put of the set.
abbrev pub set_put : Request
set_put = PutObject lake (codes "out/__magic/job-j1/sets/task_0.pendingset") (compact_text (set_tree the_set)) None

-- A put of the set whose reply is lost.
abbrev pub lost_put : Entry
lost_put = entry 3 worker set_put ReplyLost

-- The journal: the set-up, the write and the attempt's commit. Its abort and the job's commit send nothing.
abbrev pub journal : List Entry
journal =
    setup_entries
    ++ write_entries
    ++ lists 3 worker directory (Listed (directory ++ codes "part-00000") 0 ∷ Listed (directory ++ codes "part-00000.pending") 177 ∷ [])
    ∷ reads_record 3 worker directory (codes "part-00000") the_record
    ∷ lost_put
    ∷ lost_put
    ∷ []

-- The ends of the run's events.
abbrev pub the_ends : List EventEnd
the_ends = Ended (ends.Setup setups.Done) ∷ Ended (ends.Task tasks.Done) ∷ Ended (ends.Task tasks.StoreFault) ∷ Ended (ends.Task tasks.Kept)
    ∷ Ended (ends.Commit (commits.Missing 0)) ∷ []

-- What the journal shows after the first m entries.
abbrev pub at : ℕ → Seen
at m = seen script (commits_at 5) opening journal m

-- The set exists, the attempt's abort keeps it, and the job's commit misses the task.
pub record LostSet : Type 0 where
  pub sent : length journal ≡ 11
  pub event : commit_event script the_ends ≡ Some 5
  pub keeps : Keeps script (commits_at 5) opening journal
  pub setup : Goes script the_ends journal Driver Setup 1 (Some 0) (ends.Setup setups.Done)
  pub write : Goes script the_ends journal worker Write 2 (Some 0) (ends.Task tasks.Done)
  -- The put runs out of retries with its second send.
  pub task : Goes script the_ends journal worker Commit 3 (Some 0) (ends.Task tasks.StoreFault)
  pub worn : first_worn 1 (since 3 (by_actor worker journal)) ≡ Some set_put
  -- The set was published all the same, so the abort keeps it, without a request.
  pub published : (at 10).last 0 ≡ Some 0
  pub abort : Goes script the_ends journal worker Abort 4 (Some 0) (ends.Task tasks.Kept)
  pub stands : object_at (moment opening journal 11).content lake (codes "out/__magic/job-j1/sets/task_0.pendingset") ≡ Some
      (record { bytes = compact_text (set_tree the_set); header = None })
  pub live : upload_at (moment opening journal 11).content lake 1 ≡ Some (held (codes "part-00000"))
  -- The task was not reported, so the job's commit misses it without a request. The resulting end is Missing.
  pub commit : Goes script the_ends journal Driver Commit 5 (Some 0) (ends.Commit (commits.Missing 0))
  pub not_begun : (at 11).begun ≡ false
  pub unpicked : (at 11).picks 0 ≡ None
  pub due : commit_due script (at 11).picks (Some 0) (first_worn 1 (since 5 (by_actor Driver journal))) ≡ commits.Missing 0
  -- Readers see the opening files; there are none.
  pub shows : (m : ℕ) (p : List ℕ) → view script.dest (moment opening journal m).content p ≡ None
  pub verdict : verdict script the_ends ≡ 1
