-- Four files. The driver is killed in its commit after two whole files and restarted. Its abort leaves these two files and no live upload.
use Rattle.text_and_lists.specs.Order.{text_eq}
use Rattle.job_examples.specs.FourFileLanes.{Goes, Prepared, Shows, below_attempt, completes, hellos, out, pending, read_entries}
use Rattle.job_examples.specs.FourFiles.{the_set}
use Rattle.job_examples.specs.Jobs.{before_commit, commits_at, lake, said, set_key, worker}
use Rattle.job_examples.specs.OneFile.{opening}
use Rattle.job_model.specs.JobScript.{Script}
use Rattle.job_model.specs.declared.ends.EventEnd.{EventEnd}
use Rattle.job_model.specs.declared.ends.EventEnd.TheVariants.{Done, Ended, Refused}
use Rattle.job_model.specs.declared.events.Event.TheVariants.{Do, Kill, Recover, Restart, Start, Step}
use Rattle.job_protocol.specs.Scope.{upload_at}
use Rattle.job_protocol.specs.Seen.{Seen, seen}
use Rattle.job_protocol.specs.View.{object_at}
use Rattle.job_spec.specs.Entries.{OutsideStays, ZeroRename}
use Rattle.job_spec.specs.Headline.{Always}
use Rattle.job_spec.specs.States.{commit_event, idle, past, refusal, verdict}
use Rattle.pending_json.specs.Trees.{set_tree}
use Rattle.s3_types.specs.Moment.{IsHonest, moment}
use Rattle.s3_types.specs.declared.journal.Entry.{Entry}
use Rattle.s3_types.specs.declared.object.Object.{Object}
use Rattle.s3_types.specs.declared.reply.PageEntry.TheVariants.{Object as Listed}
use Rattle.s3_types.specs.declared.reply.Reply.TheVariants.{Aborted, Deleted, Page, Uploads}
use Rattle.s3_types.specs.declared.request.Actor.TheVariants.{Driver}
use Rattle.s3_types.specs.declared.request.Request.TheVariants.{AbortUpload, DeleteObjects, ListPage, ListUploads}
use Rattle.serde_json.specs.Written.{compact_text}
use Rattle.std.specs.Map.{lookup}
use Rattle.std.specs.Prelude.{List, None, Some, codes, false, length, true, ℕ, [], ◌++◌, ◌∷◌, ◌≡◌}
use Rattle.std.specs.FinMap as fin
use Rattle.job_model.specs.declared.events.Op.TheVariants as ops
use Rattle.job_model.specs.declared.ends.CleanEnd.TheVariants as cleans
use Rattle.job_model.specs.declared.ends.OpEnd.TheVariants as ends
use Rattle.job_model.specs.declared.ends.EventFault.TheVariants as faults
use Rattle.job_model.specs.declared.states.ActorStage.TheVariants as stage
use Rattle.job_examples.specs.FourFileLanes as files

-- The job's script, with three retries and one lane, as by default.
abbrev pub script : Script
script = files.script 3 1 fin.empty (Start Driver ops.Commit ∷ Step Driver 3 ∷ Kill Driver ∷ Restart ∷ Do Driver ops.Commit ∷ Do Driver
    ops.Abort ∷ Restart ∷ Recover worker ∷ [])

-- The keys below the job's magic directory.
abbrev pub magic_keys : List (List ℕ)
magic_keys =
    set_key
    ∷ below_attempt (codes "a") ∷ pending (codes "a")
    ∷ below_attempt (codes "b") ∷ pending (codes "b")
    ∷ below_attempt (codes "c") ∷ pending (codes "c")
    ∷ below_attempt (codes "d") ∷ pending (codes "d")
    ∷ []

-- The entries of the abort, event 9. It aborts the two live uploads and empties the magic directory.
abbrev pub abort_entries : List Entry
abort_entries =
    said 9 Driver (ListUploads lake (codes "out/") None 1000) (Uploads
    (record { key = out (codes "c"); upload = 3 } ∷ record { key = out (codes "d"); upload = 4 } ∷ []) false)
    ∷ said 9 Driver (AbortUpload lake (out (codes "c")) 3) Aborted
    ∷ said 9 Driver (AbortUpload lake (out (codes "d")) 4) Aborted
    ∷ said 9 Driver (ListPage lake (codes "out/__magic/job-j1/") false [] 1000) (Page (
    Listed set_key (length (compact_text (set_tree the_set)))
    ∷ Listed (below_attempt (codes "a")) 0 ∷ Listed (pending (codes "a")) 168
    ∷ Listed (below_attempt (codes "b")) 0 ∷ Listed (pending (codes "b")) 168
    ∷ Listed (below_attempt (codes "c")) 0 ∷ Listed (pending (codes "c")) 168
    ∷ Listed (below_attempt (codes "d")) 0 ∷ Listed (pending (codes "d")) 168
    ∷ []) false)
    ∷ said 9 Driver (DeleteObjects lake magic_keys) Deleted
    ∷ []

-- The run's journal.
abbrev pub journal : List Entry
journal = read_entries 5 ++ completes 5 (codes "a") 1 ∷ completes 5 (codes "b") 2 ∷ abort_entries

-- The ends of the events up to the restart.
abbrev pub restart_ends : List EventEnd
restart_ends = before_commit ++ Done ∷ Done ∷ Done ∷ Done ∷ []

-- The ends of the events up to the abort.
abbrev pub abort_ends : List EventEnd
abort_ends = restart_ends ++ Refused faults.WrongState ∷ Ended (ends.Clean cleans.Done) ∷ []

-- The ends of the run's events.
abbrev pub the_ends : List EventEnd
the_ends = abort_ends ++ Refused faults.NotDead ∷ Refused faults.NoRecovery ∷ []

-- What the journal shows after the first m entries.
abbrev pub at : ℕ → Seen
at m = seen script (commits_at 4) opening journal m

-- The two objects that are left.
abbrev pub two_objects : List (List ℕ × Object)
two_objects = (out (codes "a"), record { bytes = codes "hello"; header = None }) ∷
    (out (codes "b"), record { bytes = codes "hello"; header = None }) ∷ []

-- The abort leaves two whole files, and no live upload.
pub record Restarted : Type 0 where
  pub sent : length journal ≡ 33
  pub always : Always script (commits_at 4) opening journal
  pub honest : IsHonest opening journal
  pub zero_rename : ZeroRename script opening journal
  pub outside : OutsideStays script opening journal
  pub prepared : Prepared script journal
  -- The commit that the killed driver began in event 4 has no end. The abort of event 9 is Done.
  pub commit : Goes script journal Driver ops.Commit 4 None 6 None
  pub abort : Goes script journal Driver ops.Abort 9 (Some 0) 9 (Some (ends.Clean cleans.Done))
  -- After the restart the driver's commit has failed. Another commit is refused; an abort is not.
  pub failed : (past script restart_ends).state Driver ≡ idle stage.Failed
  pub second : refusal (past script restart_ends).state (Do Driver ops.Commit) ≡ Some faults.WrongState
  pub may_abort : refusal (past script restart_ends).state (Do Driver ops.Abort) ≡ None
  -- After the abort another restart and a recovery are refused.
  pub aborted : (past script the_ends).state Driver ≡ idle stage.Aborted
  pub number : (past script the_ends).attempt ≡ 2
  pub again : refusal (past script abort_ends).state Restart ≡ Some faults.NotDead
  pub recovery : refusal (past script abort_ends).state (Recover worker) ≡ Some faults.NoRecovery
  pub first : commit_event script the_ends ≡ Some 4
  pub verdict : verdict script the_ends ≡ 1
  pub begun : (at 26).begun ≡ true
  pub picked : (at 26).picks 0 ≡ Some 0
  pub unmarked : (at 33).put_mark ≡ false
  -- The two files stay. At the end there is no other object, and no live upload.
  pub two : Shows script journal 28 (hellos (codes "a" ∷ codes "b" ∷ []))
  pub stay : Shows script journal 33 (hellos (codes "a" ∷ codes "b" ∷ []))
  pub no_uploads : (id : ℕ) → upload_at (moment opening journal 33).content lake id ≡ None
  pub objects : (key : List ℕ) → object_at (moment opening journal 33).content lake key ≡ lookup (text_eq key) two_objects
