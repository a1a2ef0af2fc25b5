-- Four files in one lane. The second completion takes effect, but its reply is lost; so it runs out of retries, and the commit reverts.
use Rattle.job_examples.specs.FourFileLanes.{Goes, Prepared, Shows, completes, completion, hellos, loses, out, read_entries}
use Rattle.job_examples.specs.Jobs.{before_commit, commits_at, lake, said}
use Rattle.job_examples.specs.OneFile.{opening}
use Rattle.job_model.specs.JobScript.{Script}
use Rattle.job_model.specs.declared.ends.EventEnd.{EventEnd}
use Rattle.job_model.specs.declared.ends.EventEnd.TheVariants.{Ended}
use Rattle.job_model.specs.declared.events.Event.TheVariants.{Do}
use Rattle.job_protocol.specs.Seen.{Seen, seen}
use Rattle.job_spec.specs.Ends.{commit_due}
use Rattle.job_spec.specs.Entries.{OutsideStays, ZeroRename}
use Rattle.job_spec.specs.Headline.{Always}
use Rattle.job_spec.specs.States.{verdict}
use Rattle.job_spec.specs.Turns.{by_actor, since}
use Rattle.retries.specs.Worn.{first_worn}
use Rattle.s3_types.specs.Moment.{IsHonest}
use Rattle.s3_types.specs.declared.fates.Fate.TheVariants.{After}
use Rattle.s3_types.specs.declared.journal.Entry.{Entry}
use Rattle.s3_types.specs.declared.reply.Refusal.TheVariants.{NoSuchUpload}
use Rattle.s3_types.specs.declared.reply.Reply.TheVariants.{Aborted, Deleted, Refused}
use Rattle.s3_types.specs.declared.request.Actor.TheVariants.{Driver}
use Rattle.s3_types.specs.declared.request.Request.TheVariants.{AbortUpload, DeleteObject}
use Rattle.std.specs.Prelude.{List, None, Some, codes, false, length, true, ℕ, [], ◌++◌, ◌∷◌, ◌≡◌}
use Rattle.std.specs.FinMap as fin
use Rattle.job_model.specs.declared.events.Op.TheVariants as ops
use Rattle.job_model.specs.declared.ends.CommitEnd.TheVariants as commits
use Rattle.job_model.specs.declared.ends.FaultStage.TheVariants as stages
use Rattle.job_model.specs.declared.ends.OpEnd.TheVariants as ends
use Rattle.job_examples.specs.FourFileLanes as files

-- The job's script. No request is sent again, and the reply to send 28 is lost.
abbrev pub script : Script
script = files.script 0 1 (fin.insert fin.empty 28 After) (Do Driver ops.Commit ∷ [])

-- The journal. The upload of b is gone; the files of b and of a are deleted, and the uploads of c and d aborted.
abbrev pub journal : List Entry
journal =
    read_entries 4
    ++ completes 4 (codes "a") 1
    ∷ loses 4 (codes "b") 2
    ∷ said 4 Driver (AbortUpload lake (out (codes "b")) 2) (Refused NoSuchUpload)
    ∷ said 4 Driver (DeleteObject lake (out (codes "b"))) Deleted
    ∷ said 4 Driver (DeleteObject lake (out (codes "a"))) Deleted
    ∷ said 4 Driver (AbortUpload lake (out (codes "c")) 3) Aborted
    ∷ said 4 Driver (AbortUpload lake (out (codes "d")) 4) Aborted
    ∷ []

-- The ends of the run's events.
abbrev pub the_ends : List EventEnd
the_ends = before_commit ++ Ended (ends.Commit (commits.StoreFault stages.Complete)) ∷ []

-- What the journal shows after the first m entries.
abbrev pub at : ℕ → Seen
at m = seen script (commits_at 4) opening journal m

-- The commit reverts, and readers see no file.
pub record LanesReverted : Type 0 where
  pub sent : length journal ≡ 33
  pub always : Always script (commits_at 4) opening journal
  pub honest : IsHonest opening journal
  pub zero_rename : ZeroRename script opening journal
  pub outside : OutsideStays script opening journal
  pub prepared : Prepared script journal
  pub commit : Goes script journal Driver ops.Commit 4 None 4 (Some (ends.Commit (commits.StoreFault stages.Complete)))
  -- The second completion runs out of retries, and the resulting end is StoreFault of its stage.
  pub worn : first_worn 0 (since 4 (by_actor Driver journal)) ≡ Some (completion (codes "b") 2)
  pub due : commit_due script (at 33).picks None (first_worn 0 (since 4 (by_actor Driver journal))) ≡ commits.StoreFault stages.Complete
  pub verdict : verdict script the_ends ≡ 8
  -- The commit begins with the read of the set, which chooses the attempt. `_SUCCESS` is never put.
  pub not_begun : (at 25).begun ≡ false
  pub begun : (at 26).begun ≡ true
  pub unpicked : (at 25).picks 0 ≡ None
  pub picked : (at 26).picks 0 ≡ Some 0
  pub unmarked : (at 33).put_mark ≡ false
  -- Readers see a after its completion, and b after the lost one. The revert hides b and then a.
  pub none : Shows script journal 26 []
  pub one : Shows script journal 27 (hellos (codes "a" ∷ []))
  pub two : Shows script journal 28 (hellos (codes "a" ∷ codes "b" ∷ []))
  pub undone : Shows script journal 30 (hellos (codes "a" ∷ []))
  pub reverted : Shows script journal 31 []
  pub whole : Shows script journal 33 []
